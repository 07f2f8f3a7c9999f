use Rattle.kc_lasting.proofs.Holding.{seen_on}
use Rattle.kc_lasting.proofs.client.Client.try_in_place.Goals as goal

pub invariant_of-self-clause-early : goal.invariant_of-self-clause-early
invariant_of-self-clause-early g c = seen_on _ _ _ c.args.self.now.caller c.try_in_place-fate.new.caller c.try_in_place-fate.ensures.keeps c.args.self.now.early
