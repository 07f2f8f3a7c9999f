use Rattle.kc_term.proofs.Closed.{term_leaves_alone}
use Rattle.kc_term.proofs.laws.writes_where_its_operations_write.Goals as goal

pub returns : goal.returns
returns g c = term_leaves_alone g.O.Transact.meaning
