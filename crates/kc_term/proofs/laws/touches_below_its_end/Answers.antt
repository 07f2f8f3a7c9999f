use Rattle.kc_term.proofs.Closed.{term_stays_below}
use Rattle.kc_term.proofs.laws.touches_below_its_end.Goals as goal

pub returns : goal.returns
returns g c = term_stays_below g.O.Transact.meaning g.O.Transact.end
