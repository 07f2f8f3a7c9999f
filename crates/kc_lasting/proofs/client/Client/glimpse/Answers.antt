use Rattle.kc_lasting.proofs.Holding.{seen_on}
use Rattle.kc_lasting.proofs.client.Client.glimpse.Goals as goal

pub invariant_of-self-clause-early : goal.invariant_of-self-clause-early
invariant_of-self-clause-early g c = seen_on _ _ _ c.args.self.now.caller c.try_views_into.new.caller c.try_views_into.ensures.learns.remembers.keeps c.args.self.now.early
