-- Who saw that a location had not been put yet knew no more than who knows of the put.
use Rattle.std.proofs.Common.{◌≡◌, ◌<◌, ◌≤◌, ◌⊎◌, inl, inr, ℕ, ◌++◌, List, [], ◌∷◌, refl, sym, ◌∙◌, arith, subst}
use Rattle.kc_hang.proofs.kc_machine_traces.Joins.{honest_parts, made_parts}
use Rattle.kc_hang.proofs.kc_table_views.Knowing.{versions_on}
use Rattle.kc_hang.specs.kc_machine.Machine.{Opening}
use Rattle.kc_hang.specs.kc_table_views.Known.{IsMeant, IsPrefix, known}
use Rattle.kc_machine_steps.specs.declared.task.Event.{Event}
use Rattle.kc_store.specs.kc_machine_traces.Histories.{ending_store}
use Rattle.kc_store.specs.kc_machine_traces.Traces.{first_store}

-- ---- two fronts of one schedule

fronts : (xs ys r s : List Event) → xs ++ r ≡ ys ++ s → IsPrefix xs ys ⊎ IsPrefix ys xs
fronts [] ys r s e = inl (ys, refl)
fronts (a ∷ xs) [] r s e = inr (a ∷ xs, refl)
fronts (a ∷ xs) (b ∷ ys) r s e = go (fronts xs ys r s cc)
  where
    first : a ≡ b
    first = cc

    go : IsPrefix xs ys ⊎ IsPrefix ys xs → IsPrefix (a ∷ xs) (b ∷ ys) ⊎ IsPrefix (b ∷ ys) (a ∷ xs)
    go (inl (rest, p)) = let f = first in inl (rest, cc)
    go (inr (rest, p)) = let f = first in inr (rest, cc)

pub meant_front : (o : Opening) (xs ys : List Event) → IsMeant o (xs ++ ys) → IsMeant o xs
meant_front o xs ys m = ((made_parts o xs ys m.0).0, (honest_parts o xs ys m.1).0)

-- a and b are fronts of one schedule, and location g has a lower version behind a than behind b: so a is the shorter one
pub is_shorter : (o : Opening) (a b es : List Event) (g : ℕ) → IsMeant o es → IsPrefix a es → IsPrefix b es → (ending_store (first_store o) (known o a) g).version < (ending_store (first_store o) (known o b) g).version → IsPrefix a b
is_shorter o a b es g m (r, p) (s, q) low = go (fronts a b r s (sym p ∙ q))
  where
    meant_a : IsMeant o a
    meant_a = meant_front o a r (subst (IsMeant o) p m)

    go : IsPrefix a b ⊎ IsPrefix b a → IsPrefix a b
    go (inl x) = x
    go (inr (more, e)) =
        let up : (ending_store (first_store o) (known o b) g).version ≤ (ending_store (first_store o) (known o a) g).version = subst (λ (x : List Event). (ending_store (first_store o) (known o b) g).version ≤ (ending_store (first_store o) (known o x) g).version) (sym e) (versions_on o b more (subst (IsMeant o) e meant_a) g) in
        absurd (omega (arith, low, up))
