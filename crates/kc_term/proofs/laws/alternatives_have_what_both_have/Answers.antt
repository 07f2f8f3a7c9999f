use Rattle.std.proofs.Common.{◌≡◌, true}
use Rattle.kc_term.proofs.Closed.{either_preserves, either_leaves_alone, either_stays_below}
use Rattle.kc_term.proofs.laws.alternatives_have_what_both_have.Goals as goal

pub returns-clause-preserves : goal.returns-clause-preserves
returns-clause-preserves g c = λ test a b. either_preserves (λ m. test m ≡ true) (g.A.Transact.meaning a) (g.B.Transact.meaning b)

pub returns-clause-leaves : goal.returns-clause-leaves
returns-clause-leaves g c = λ l a b. either_leaves_alone l (g.A.Transact.meaning a) (g.B.Transact.meaning b)

pub returns-clause-below : goal.returns-clause-below
returns-clause-below g c = λ a b. either_stays_below (g.A.Transact.end a) (g.B.Transact.end b) (g.A.Transact.meaning a) (g.B.Transact.meaning b)
