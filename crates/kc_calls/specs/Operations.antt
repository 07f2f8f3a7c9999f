-- Which of what C says are operations of one transaction.
use Rattle.std.specs.Prelude.{◌≡◌, ℕ, ◌<◌, ◌≤◌, List, [], ◌∷◌, length}
use Rattle.kc_calls.specs.Cut.{ors}
use Rattle.kc_calls.specs.Fed.{AreFed}
use Rattle.kc_calls.specs.Meaning.{IsOperation}
use Rattle.kc_calls.specs.declared.calls.TheConstants.{MOST_CALLS, MOST_ALTERNATIVES}
use Rattle.kc_calls.specs.declared.operation.KcasOp.{KcasOp}
use Rattle.kc_calls.specs.declared.verbs.TheConstants.{NEXT}
use Rattle.kc_term.specs.Fit.{Each}

-- the first one's mark
abbrev pub BeginsWith : ℕ → List KcasOp → Type 0
BeginsWith mark [] = ⊥
BeginsWith mark (o ∷ os) = o.mark ≡ mark

-- some, not too many, each an operation, fed by those before it in its alternative; the first begins the first alternative, and marks begin the others
pub record AreOperations (locations : ℕ) (ops : List KcasOp) : Type 0 where
  pub few : length ops ≤ MOST_CALLS
  pub begins : BeginsWith NEXT ops
  pub each : Each (IsOperation locations) ops
  pub alternatives : ors ops < MOST_ALTERNATIVES
  pub fed : AreFed 0 ops
