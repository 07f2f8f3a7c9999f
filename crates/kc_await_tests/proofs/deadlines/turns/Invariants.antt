use Rattle.std.proofs.Common.{◌≡◌}
use Rattle.kc_await_tests.proofs.deadlines.turns.Given as goal

abbrev pub invariant-loop : goal.invariant-loop
invariant-loop g l = l.caller.of ≡ l.store
