use Rattle.kc_lasting.proofs.Holding.{seen_on}
use Rattle.kc_lasting.proofs.client.Client.read.Goals as goal

pub invariant_of-self-clause-early : goal.invariant_of-self-clause-early
invariant_of-self-clause-early g c = seen_on _ _ _ c.args.self.now.caller c.look.new.caller c.look.ensures.learns.remembers.keeps c.args.self.now.early
