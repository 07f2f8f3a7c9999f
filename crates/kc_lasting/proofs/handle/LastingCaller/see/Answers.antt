use Rattle.kc_lasting.proofs.Chains.{store_on}
use Rattle.kc_lasting.proofs.handle.LastingCaller.see.Goals as goal

pub invariant_of-self-clause-at : goal.invariant_of-self-clause-at
invariant_of-self-clause-at c = store_on c.args.self.now.place.page.seen c.join.new.page.seen c.join.ensures.seen.0 c.args.self.now.place.era c.args.self.now.client.caller.of c.args.self.now.at
