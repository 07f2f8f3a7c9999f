-- Where objects that have names lie.
use Rattle.std.proofs.Common.{ℕ, ◌+◌, ◌≤◌, [], ◌∷◌, inl, inr, ap, arith}
use Rattle.kc_script_bundle.proofs.Places.{next_from-above}
use Rattle.kc_script_bundle.specs.Script.{Names, base, cells, HasObject, LieFrom, next_from}
use Rattle.kc_script_bundle.specs.declared.object.Object.{Object}

-- an object lies behind this location, and before the next one
pub has_place : (at : ℕ) (names : Names) (o : Object) → LieFrom at names → HasObject names o → (at ≤ base o) × (base o + cells o ≤ next_from at names)
unfolding LieFrom next_from
has_place at [] o lie has = absurd has
has_place at (entry ∷ names) o lie (inl e) =
    let first = lie.0 in
    let same = ap base e in
    let size = ap cells e in
    (omega (arith, first, same), omega (arith, first, same, size, next_from-above (at + cells entry.1) names))
has_place at (entry ∷ names) o lie (inr has) =
    let rest = has_place (at + cells entry.1) names o lie.1 has in
    (omega (arith, rest.0), rest.1)
