-- The first of some files is the setup, and the rest are a thread each.
use Rattle.std.proofs.Common.{◌≡◌, ℕ, zero, suc, ◌-◌, ◌≤◌, ◌<◌, List, [], ◌∷◌, length, take, drop, get_or, map, All, Option, refl, ap, sym, ◌∙◌, arith, length-drop}
use Rattle.std.proofs.lemmas.List.{take_all}
use Rattle.std.specs.Global.{Vec}
use Rattle.kc_model.specs.Shelves.{all_items, HasEach}

-- what stands from a place on, as a slice gives it
pub slice_on : {X : Type 0} (xs : List X) (i : ℕ) → take (length xs - i) (drop i xs) ≡ drop i xs
slice_on xs i = take_all (length xs - i) (drop i xs) (omega (arith, length-drop i xs))

-- there are as many files as names
pub as_many : (told : Option (List (List ℕ × List ℕ))) (names : List (List ℕ)) (files : List (Vec ℕ)) → HasEach told names (all_items files) → length names ≡ length files
as_many told [] [] h = refl
as_many told (n ∷ names) (v ∷ files) h = ap suc (as_many told names files h.1)
as_many told [] (v ∷ files) h = absurd h
as_many told (n ∷ names) [] h = absurd h

-- the first and the rest
pub first_and_rest : (files : List (Vec ℕ)) (d : Vec ℕ) → 0 < length files → all_items files ≡ (get_or files 0 d).items ∷ all_items (drop 1 files)
first_and_rest [] d lt = absurd (omega (arith, lt))
first_and_rest (v ∷ files) d lt = refl

-- all of them, as the slices that are read
pub parted : (files : List (Vec ℕ)) (v : Vec ℕ) (bytes : List ℕ) (slice : List (Vec ℕ)) → 0 < length files → v ≡ get_or files 0 v → bytes ≡ v.items → slice ≡ files → all_items files ≡ bytes ∷ map (λ (w : Vec ℕ). w.items) (take (length slice - 1) (drop 1 slice))
parted files v bytes slice some first value same = rw (value, same, slice_on files 1) (first_and_rest files v some ∙ ap (λ (w : Vec ℕ). w.items ∷ all_items (drop 1 files)) (sym first))

-- what holds of each holds of the rest
pub rest_within : (limit : ℕ) (files : List (Vec ℕ)) → All (λ (bytes : List ℕ). length bytes ≤ limit) (all_items files) → All (λ (v : Vec ℕ). length v.items ≤ limit) (drop 1 files)
rest_within limit [] h = λ k d lt. absurd (omega (arith, lt))
rest_within limit (v ∷ files) h = each files (λ k d lt. h (suc k) d (omega (arith, lt))) where
  each : (xs : List (Vec ℕ)) → All (λ (bytes : List ℕ). length bytes ≤ limit) (all_items xs) → All (λ (v : Vec ℕ). length v.items ≤ limit) xs
  each [] g k d lt = absurd (omega (arith, lt))
  each (x ∷ xs) g zero d lt = g zero x.items (omega arith)
  each (x ∷ xs) g (suc k) d lt = each xs (λ i e l. g (suc i) e (omega (arith, l))) k d (omega (arith, lt))

-- and of the first
pub first_within : (limit : ℕ) (files : List (Vec ℕ)) (d : Vec ℕ) → 0 < length files → All (λ (bytes : List ℕ). length bytes ≤ limit) (all_items files) → length (get_or files 0 d).items ≤ limit
first_within limit [] d lt h = absurd (omega (arith, lt))
first_within limit (v ∷ files) d lt h = h zero v.items (omega arith)
