-- Places that are made one after another.
use Rattle.std.proofs.Common.{ℕ, zero, suc, ◌<◌, ◌++◌, List, [], ◌∷◌, length, arith}
use Rattle.std.proofs.Math.ListN.{get_or}

-- one more, at the end
pub in_order_push : {X : Type 0} (P : ℕ → X → Type 0) (xs : List X) (x : X) → ((k : ℕ) (d : X) → k < length xs → P k (get_or xs k d)) → P (length xs) x
    → (k : ℕ) (d : X) → k < length (xs ++ x ∷ []) → P k (get_or (xs ++ x ∷ []) k d)
in_order_push P [] x all last zero d h = last
in_order_push P [] x all last (suc k) d h = absurd (omega (arith, h))
in_order_push P (y ∷ xs) x all last zero d h = all zero d (omega arith)
in_order_push P (y ∷ xs) x all last (suc k) d h = in_order_push (λ n. P (suc n)) xs x (λ n e i. all (suc n) e (omega (arith, i))) last k d (omega (arith, h))
