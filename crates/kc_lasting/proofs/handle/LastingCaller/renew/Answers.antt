use Rattle.kc_lasting.proofs.GoingOver.{on_all}
use Rattle.kc_lasting.proofs.handle.LastingCaller.renew.Goals as goal

pub returns-in-Stays-clause-renews : goal.returns-in-Stays-clause-renews
returns-in-Stays-clause-renews g c = on_all c.args.self.now.client.caller c.cross.new.client.caller c.cross.new.client.seen.value c.in-Stays.ensures.crosses
