use Rattle.std.proofs.Common.{◌≡◌}
use Rattle.kc_await_tests.proofs.waiting.take.Given as goal

abbrev pub invariant-loop-value : goal.invariant-loop-value
invariant-loop-value g l = l.caller.of ≡ l.store
