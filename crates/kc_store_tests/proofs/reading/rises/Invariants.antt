use Rattle.std.proofs.Common.{◌≡◌}
use Rattle.kc_store_tests.proofs.reading.rises.Given as goal

abbrev pub invariant-loop : goal.invariant-loop
invariant-loop l = l.caller.of ≡ l.store
