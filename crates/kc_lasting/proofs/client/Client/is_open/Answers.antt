use Rattle.kc_lasting.proofs.Holding.{seen_on}
use Rattle.kc_lasting.proofs.client.Client.is_open.Goals as goal

pub invariant_of-self-else-is_open-clause-early : goal.invariant_of-self-else-is_open-clause-early
invariant_of-self-else-is_open-clause-early g c = seen_on _ _ _ c.args.self.now.caller c.look-found.new.caller c.look-found.ensures.learns.remembers.keeps c.args.self.now.early
