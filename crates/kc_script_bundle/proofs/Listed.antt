-- Items and pairs that are written one at a time.
use Rattle.std.proofs.Common.{◌≡◌, ℕ, suc, ◌+◌, ◌-◌, ◌<◌, ◌≤◌, List, [], ◌∷◌, length, drop, Some, None, ap, subst, arith}
use Rattle.std.specs.Prelude.{Option, Result}
use Rattle.std.specs.List.{flat_map}
use Rattle.kc_hash.specs.Content.{first_pair}
use Rattle.kc_model.proofs.Pens.{owes_all, owes_then, owes_none}
use Rattle.kc_model.specs.Pen.{Sheet, Asks, SheetOwes}
use Rattle.kc_model.specs.declared.outside.Failed.{Failed}
use Rattle.kc_script_bundle.specs.State.{values_from, number_text}

same_pair : (p q : ℕ × ℕ) → Some p ≡ first_pair (q ∷ []) → p ≡ q
same_pair p q e = let f : Option (ℕ × ℕ) → ℕ × ℕ = of in ap f e where
  of : Option (ℕ × ℕ) → ℕ × ℕ
  of (Some r) = r
  of None = q

module _ {K : Type 0} {written : K → Option (List ℕ)} {faults : K → ℕ} {gives : K → List ℕ → Result ℕ Failed → K → Type 0} where
  -- the first pair was written, and the others are left
  pub pair_next : {a b c : Sheet K} {all : List ℕ} (f : ℕ × ℕ → List ℕ) (old new : List (ℕ × ℕ)) (p : ℕ × ℕ) → Some p ≡ first_pair old → new ≡ drop 1 old → Asks written faults gives b c (f p) → SheetOwes written faults gives a b (flat_map f old) all → SheetOwes written faults gives a c (flat_map f new) all
  pair_next f [] new p e d asks owes = absurd (cc)
  pair_next {a} {b} {c} f (q ∷ old) new p e d asks owes =
      let here : Asks written faults gives b c (f q) = subst (λ r. Asks written faults gives b c (f r)) (same_pair p q e) asks in
      rw d (owes_then {xs = f q} {rest = flat_map f old} here owes)

  -- no pair is left
  pub pairs_last : {a b : Sheet K} {all : List ℕ} (f : ℕ × ℕ → List ℕ) (old : List (ℕ × ℕ)) → None ≡ first_pair old → SheetOwes written faults gives a b (flat_map f old) all → Asks written faults gives a b all
  pairs_last f [] e owes = owes_none owes
  pairs_last f (q ∷ old) e owes = absurd (cc)

  -- all items are left
  pub items_first : {a : Sheet K} (f : ℕ → ℕ) (n : ℕ) → SheetOwes written faults gives a a (flat_map number_text (values_from f 0 (n - 0))) (flat_map number_text (values_from f 0 n))
  items_first f n = let all : n - 0 ≡ n = omega arith in rw all (owes_all _ _)

  -- an item was written, and the others are left
  pub item_next : {a b c : Sheet K} {all : List ℕ} (f : ℕ → ℕ) (i n v : ℕ) → i < n → v ≡ f i → Asks written faults gives b c (number_text v) → SheetOwes written faults gives a b (flat_map number_text (values_from f i (n - i))) all → SheetOwes written faults gives a c (flat_map number_text (values_from f (i + 1) (n - (i + 1)))) all
  item_next {a} {b} {c} f i n v lt e asks owes =
      let left : n - i ≡ suc (n - (i + 1)) = omega (arith, lt) in
      owes_then {xs = number_text (f i)} {rest = flat_map number_text (values_from f (i + 1) (n - (i + 1)))} (rw e at asks) (rw left at owes)

  -- no item is left
  pub items_last : {a b : Sheet K} {all : List ℕ} (f : ℕ → ℕ) (i n : ℕ) → n ≤ i → SheetOwes written faults gives a b (flat_map number_text (values_from f i (n - i))) all → Asks written faults gives a b all
  items_last f i n le owes = let none : n - i ≡ 0 = omega (arith, le) in owes_none (rw none at owes)

-- a pair was taken
pub pair_falls : (old new : List (ℕ × ℕ)) (p : ℕ × ℕ) → Some p ≡ first_pair old → new ≡ drop 1 old → length new < length old
pair_falls [] new p e d = absurd (cc)
pair_falls (q ∷ old) new p e d = rw d (omega arith)
