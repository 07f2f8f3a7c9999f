use Rattle.kc_callers.proofs.Homes.{lent_is}
use Rattle.kc_callers.proofs.callers.Callers.lend.Goals as goal

pub returns-clause-of : goal.returns-clause-of
returns-clause-of c = (lent_is c.args.self.now.store c.args.self.now.desk.places.items c.in_ok-idle.loan.place c.in_ok-idle.idle c.args.self.now.homes c.in_ok-idle.ensures.fits).0

pub returns-clause-number : goal.returns-clause-number
returns-clause-number c = (lent_is c.args.self.now.store c.args.self.now.desk.places.items c.in_ok-idle.loan.place c.in_ok-idle.idle c.args.self.now.homes c.in_ok-idle.ensures.fits).1
