-- Which terms may be run.
use Rattle.std.specs.Prelude.{◌≤◌, List, [], ◌∷◌, length}
use Rattle.kc_term.specs.declared.term.TheConstants.{MOST_OPERATIONS}
use Rattle.kc_xt.specs.Meaning.{Meaning}
use Rattle.kc_xt.specs.Structure.{RepliesOneItem}

-- each of the list
abbrev pub Each : {X : Type 0} → (X → Type 0) → List X → Type 0
Each P [] = Unit {0}
Each P (x ∷ xs) = P x × Each P xs

-- the operations of a term that may be run: not too many, each fit, and each with one item to reply
pub record AreFit {O : Type 0} (fit : O → Type 0) (mean : O → Meaning) (os : List O) : Type 0 where
  pub few : length os ≤ MOST_OPERATIONS
  pub each : Each fit os
  pub single : Each (λ o. RepliesOneItem (mean o)) os
