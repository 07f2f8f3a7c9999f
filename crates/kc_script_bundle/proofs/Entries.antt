-- The entries of a map, one after the other.
use Rattle.std.proofs.Common.{◌≡◌, ℕ, zero, suc, ◌+◌, ◌<◌, ◌≤◌, List, [], ◌∷◌, ◌++◌, length, get_or, drop, Some, refl, sym, ap, ◌∙◌, append_assoc, arith}
use Rattle.std.proofs.lemmas.List.{append-nil, drop_more, drop_all}
use Rattle.std.specs.List.{flat_map}
use Rattle.std.specs.Prelude.{map, slice_get}
use Rattle.kc_script_bundle.specs.Script.{Names, base, cells, CellsWithin}
use Rattle.kc_script_bundle.specs.declared.object.Object.{Object}

-- the entry at an index
pub entry_at : {X Y : Type 0} (f : X → Y) (es : List X) (i : ℕ) (e : X) → Some e ≡ slice_get es i → get_or (map f es) i (f e) ≡ f e
entry_at f [] i e h = refl
entry_at f (x ∷ es) zero e h = let same : x ≡ e = cc in ap f same
entry_at f (x ∷ es) (suc i) e h = entry_at f es i e h

-- where all cells are below a number, those of an entry are
pub entry_within : (n : ℕ) (names : Names) (i : ℕ) (d : List ℕ × Object) → i < length names → CellsWithin n names → base (get_or names i d).1 + cells (get_or names i d).1 ≤ n
entry_within n [] i d lt h = absurd (omega arith)
entry_within n (entry ∷ names) zero d lt h = h.0.1
entry_within n (entry ∷ names) (suc i) d lt h = entry_within n names i d (omega arith) h.1

module _ {X : Type 0} (f : X → List ℕ) (xs : List X) (i : ℕ) (front total : List ℕ) (so_far : front ++ flat_map f (drop i xs) ≡ total) where
  -- the numbers of one more element were added
  pub adds_next : (d : X) (more : List ℕ) → i < length xs → more ≡ front ++ f (get_or xs i d) → more ++ flat_map f (drop (i + 1) xs) ≡ total
  adds_next d more lt e = rw e (append_assoc front (f (get_or xs i d)) (flat_map f (drop (i + 1) xs)) ∙ ap (λ (rest : List X). front ++ flat_map f rest) (sym (drop_more xs i d lt)) ∙ so_far)

  -- those of all elements were added
  pub adds_all : length xs ≤ i → front ≡ total
  adds_all le = sym (append-nil front) ∙ ap (λ (rest : List X). front ++ flat_map f rest) (sym (drop_all i xs le)) ∙ so_far
