use Rattle.kc_lasting.proofs.Holding.{seen_on}
use Rattle.kc_store.proofs.Remembering.{learns_same}
use Rattle.kc_lasting.proofs.client.Client.wait.Goals as goal

pub invariant_of-self-in-None-clause-early : goal.invariant_of-self-in-None-clause-early
invariant_of-self-in-None-clause-early g c = seen_on _ _ _ c.args.self.now.caller c.wait_for_a_change.new.caller c.wait_for_a_change.ensures.learns.remembers.keeps c.args.self.now.early

pub invariant_of-self-in-Some-clause-early : goal.invariant_of-self-in-Some-clause-early
invariant_of-self-in-Some-clause-early g c = seen_on _ _ _ c.args.self.now.caller c.wait_a_while.new.caller c.wait_a_while.ensures.learns.remembers.keeps c.args.self.now.early

pub returns-then-is_empty-clause-learns : goal.returns-then-is_empty-clause-learns
returns-then-is_empty-clause-learns g c = learns_same c.args.self.now.caller

pub returns-else-all-clause-learns : goal.returns-else-all-clause-learns
returns-else-all-clause-learns g c = learns_same c.args.self.now.caller
