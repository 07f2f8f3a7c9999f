-- Transactions that reply one item.
use Rattle.std.proofs.Common.{◌≤◌, List, [], ◌∷◌, length}
use Rattle.kc_term.specs.Fit.{Each, AreFit}
use Rattle.kc_term.specs.declared.term.TheConstants.{MOST_OPERATIONS}
use Rattle.kc_xt.proofs.Singles.{one-meaning}
use Rattle.kc_xt.specs.Meaning.{Meaning}
use Rattle.kc_xt.specs.Program.{Program, meaning}
use Rattle.kc_xt.specs.Single.{EndsInOne}
use Rattle.kc_xt.specs.Structure.{RepliesOneItem}

-- a program whose ends are one item each means one
pub means_one : (p : Program) → EndsInOne p → RepliesOneItem (meaning p)
means_one p h n m ks = one-meaning p n m ks h

-- what holds of each value holds of each in a list
pub each_of : {X : Type 0} {P : X → Type 0} → ((x : X) → P x) → (xs : List X) → Each P xs
each_of h [] = tt
each_of h (x ∷ xs) = (h x, each_of h xs)

-- operations that are all fit and all reply one item make a term that is fit, if they are few
pub few_are_fit : {O : Type 0} {fit : O → Type 0} {mean : O → Meaning} → ((o : O) → fit o) → ((o : O) → RepliesOneItem (mean o)) → (os : List O) → length os ≤ MOST_OPERATIONS → AreFit fit mean os
few_are_fit h g os few = record { few = few; each = each_of h os; single = each_of g os }
