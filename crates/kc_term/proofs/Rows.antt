-- Operations in a row: what stands at a place, and behind it.
use Rattle.std.proofs.Common.{◌≡◌, ℕ, zero, suc, ◌+◌, ◌<◌, ◌≤◌, max, List, [], ◌∷◌, length, refl, sym, ap, ap₂, ◌∙◌, subst, arith, get_or, drop, drop-cons, add-one}
use Rattle.kc_term.specs.Fit.{Each}
use Rattle.kc_term.specs.Meaning.{greatest_end}
use Rattle.kc_term.specs.Row.{row_of}
use Rattle.kc_term.specs.Tree.{trees, all_operations}

-- the operations of the term of a row
pub row-operations : {O : Type 0} (os : List O) → all_operations (trees (row_of os)) ≡ os
row-operations [] = refl
row-operations (o ∷ os) = ap (λ ys. o ∷ ys) (row-operations os)

-- the operation at a place, and those behind it
pub row-cons : {O : Type 0} (os : List O) (i : ℕ) (x : O) → i < length os → x ≡ get_or os i x → drop i os ≡ x ∷ drop (i + 1) os
row-cons os i x h e = drop-cons os i x h ∙ ap₂ (λ y ys. y ∷ ys) (sym e) (ap (λ n. drop n os) (sym (add-one i)))

pub each_at : {X : Type 0} (P : X → Type 0) (xs : List X) (i : ℕ) (x : X) → i < length xs → x ≡ get_or xs i x → Each P xs → P x
each_at P [] i x h e f = absurd (omega arith)
each_at P (y ∷ xs) zero x h e f = subst P (sym e) f.0
each_at P (y ∷ xs) (suc i) x h e f = each_at P xs i x (omega arith) e f.1

module _ {O : Type 0} (end : O → ℕ) where
  pub row-end_at : (os : List O) (i : ℕ) (x : O) → i < length os → x ≡ get_or os i x → end x ≤ greatest_end end os
  row-end_at [] i x h e = absurd (omega arith)
  row-end_at (o ∷ os) zero x h e = omega (arith, ap end e)
  row-end_at (o ∷ os) (suc i) x h e = omega (arith, row-end_at os i x (omega arith) e)

  pub row-end-cons : (os : List O) (i : ℕ) (x : O) → i < length os → x ≡ get_or os i x → greatest_end end (drop i os) ≡ max (end x) (greatest_end end (drop (i + 1) os))
  row-end-cons os i x h e = ap (λ ys. greatest_end end ys) (row-cons os i x h e)
