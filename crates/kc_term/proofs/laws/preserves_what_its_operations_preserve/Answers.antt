use Rattle.std.proofs.Common.{◌≡◌, true}
use Rattle.kc_term.proofs.Closed.{term_preserves}
use Rattle.kc_term.proofs.laws.preserves_what_its_operations_preserve.Goals as goal

pub returns : goal.returns
returns g c = λ test. term_preserves g.O.Transact.meaning (λ m. test m ≡ true)
