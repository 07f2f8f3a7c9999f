-- A list that is written over by another one, from the first on.
use Rattle.std.proofs.Common.{◌≡◌, ℕ, zero, suc, ◌+◌, ◌<◌, List, [], ◌∷◌, ◌++◌, arith, length, map, set, take, drop, get_or, refl, ap}

pub copied_more : {X Y : Type 0} (f : X → Y) (from : List X) (old : List Y) (i : ℕ) (d : X) → i < length from → i < length old → set (map f (take i from) ++ drop i old) i (f (get_or from i d)) ≡ map f (take (i + 1) from) ++ drop (i + 1) old
copied_more f [] old i d lt lt' = absurd (omega (arith, lt))
copied_more f (x ∷ from) [] i d lt lt' = absurd (omega (arith, lt'))
copied_more f (x ∷ from) (y ∷ old) zero d lt lt' = refl
copied_more f (x ∷ from) (y ∷ old) (suc i) d lt lt' = let later : suc i + 1 ≡ suc (i + 1) = omega arith in rw later (ap (λ zs. f x ∷ zs) (copied_more f from old i d (omega (arith, lt)) (omega (arith, lt'))))
