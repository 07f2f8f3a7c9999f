use Rattle.kc_callers.proofs.Homes.{lent_is}
use Rattle.kc_callers.proofs.callers.Callers.lend_waiting.Goals as goal

pub returns-clause-of : goal.returns-clause-of
returns-clause-of g c = let lent = c.lend_waiting-idle in (lent_is c.args.self.now.store c.args.self.now.desk.places.items lent.result.1.place lent.result.0 c.args.self.now.homes lent.ensures.fits).0

pub returns-clause-number : goal.returns-clause-number
returns-clause-number g c = let lent = c.lend_waiting-idle in (lent_is c.args.self.now.store c.args.self.now.desk.places.items lent.result.1.place lent.result.0 c.args.self.now.homes lent.ensures.fits).1
