use Rattle.std.proofs.Common.{◌≡◌}
use Rattle.kc_await_tests.proofs.hanging.step_on.Given as goal

abbrev pub invariant-loop : goal.invariant-loop
invariant-loop g l = l.hanging.caller.of ≡ l.store
