use Rattle.std.proofs.Common.{◌≡◌}
use Rattle.kc_locked_tests.proofs.waking.take_turns.Given as goal

abbrev pub invariant-loop-pass : goal.invariant-loop-pass
invariant-loop-pass g l = l.pass.table ≡ l.store.table

abbrev pub decreases-loop-pass : goal.decreases-loop-pass
decreases-loop-pass g l = l.pass.left
