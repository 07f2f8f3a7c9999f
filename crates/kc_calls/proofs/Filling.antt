-- Lists that are filled in place, from the first on.
use Rattle.std.proofs.Common.{◌≡◌, ℕ, zero, suc, ◌+◌, ◌<◌, List, [], ◌∷◌, ◌++◌, length, take, drop, set, refl, sym, ap, ◌∙◌, arith}
use Rattle.std.proofs.Math.Seq.{take-suc-set, take-length}
use Rattle.std.proofs.lemmas.List.{take-append-drop}
use Rattle.kc_calls.specs.Told.{places_from}
use Rattle.kc_script_bundle.specs.State.{values_from}

-- one more at the end
places-last : {X : Type 0} (f : ℕ → X) (i n : ℕ) → places_from f i (suc n) ≡ places_from f i n ++ f (i + n) ∷ []
unfolding places_from
places-last f i zero = ap (λ k. f k ∷ []) (omega arith)
places-last f i (suc n) = ap (λ xs. f i ∷ xs) (places-last f (i + 1) n ∙ ap (λ k. places_from f (i + 1) n ++ f k ∷ []) (omega arith))

-- values by places
pub values_places : (f : ℕ → ℕ) (i n : ℕ) → values_from f i n ≡ places_from f i n
unfolding places_from
values_places f i zero = refl
values_places f i (suc n) = ap (λ xs. f i ∷ xs) (values_places f (i + 1) n)

module _ {X : Type 0} (f : ℕ → X) (xs : List X) (i : ℕ) (x : X) where
  pub filled_more : i < length xs → x ≡ f i → take i xs ≡ places_from f 0 i → take (i + 1) (set xs i x) ≡ places_from f 0 (i + 1)
  filled_more lt e h =
      ap (λ k. take k (set xs i x)) (let g : i + 1 ≡ suc i = omega arith in g) ∙ take-suc-set xs i x lt ∙ ap (λ ys. ys ++ x ∷ []) h
      ∙ ap (λ y. places_from f 0 i ++ y ∷ []) (e ∙ ap f (let g : i ≡ 0 + i = omega arith in g)) ∙ sym (places-last f 0 i) ∙ ap (λ k. places_from f 0 k) (let g : suc i ≡ i + 1 = omega arith in g)

-- all are filled
pub filled_all : {X : Type 0} (f : ℕ → X) (xs : List X) (i : ℕ) → i ≡ length xs → take i xs ≡ places_from f 0 i → xs ≡ places_from f 0 (length xs)
filled_all f xs i e h = sym (take-length xs) ∙ ap (λ k. take k xs) (sym e) ∙ h ∙ ap (places_from f 0) e

-- the first are filled, and those behind are others'
pub filled_first : (f : ℕ → ℕ) (xs ys : List ℕ) (i n : ℕ) → i ≡ n → take i xs ≡ places_from f 0 i → drop n xs ≡ drop n ys → xs ≡ values_from f 0 n ++ drop n ys
filled_first f xs ys i n e h g =
    sym (take-append-drop n xs) ∙ ap (λ zs. zs ++ drop n xs) (ap (λ k. take k xs) (sym e) ∙ h ∙ ap (places_from f 0) e ∙ sym (values_places f 0 n)) ∙ ap (λ zs. values_from f 0 n ++ zs) g
