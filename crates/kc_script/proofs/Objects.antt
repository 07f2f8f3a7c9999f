-- One more object behind others.
use Rattle.std.proofs.Common.{◌≡◌, ℕ, ◌+◌, List, [], ◌∷◌, ◌++◌, refl}
use Rattle.kc_script_bundle.specs.Script.{Names, base, cells, next_from, LieFrom, IsSized, AreSized}
use Rattle.kc_script_bundle.specs.declared.object.Object.{Object}

-- the first location behind them
pub next_from_more : (at : ℕ) (names : Names) (entry : List ℕ × Object) → next_from at (names ++ entry ∷ []) ≡ next_from at names + cells entry.1
unfolding next_from
next_from_more at [] entry = refl
next_from_more at (e ∷ names) entry = next_from_more (at + cells e.1) names entry

pub lies_more : (at : ℕ) (names : Names) (entry : List ℕ × Object) → LieFrom at names → base entry.1 ≡ next_from at names → LieFrom at (names ++ entry ∷ [])
unfolding LieFrom next_from
lies_more at [] entry h e = (e, tt)
lies_more at (x ∷ names) entry h e = (h.0, lies_more (at + cells x.1) names entry h.1 e)

pub sized_more : (names : Names) (entry : List ℕ × Object) → AreSized names → IsSized entry.1 → AreSized (names ++ entry ∷ [])
sized_more [] entry h e = (e, tt)
sized_more (x ∷ names) entry h e = (h.0, sized_more names entry h.1 e)
