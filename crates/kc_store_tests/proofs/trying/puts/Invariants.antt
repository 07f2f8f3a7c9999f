use Rattle.std.proofs.Common.{◌≡◌}
use Rattle.kc_store_tests.proofs.trying.puts.Given as goal

abbrev pub invariant-loop-key : goal.invariant-loop-key
invariant-loop-key l = l.caller.of ≡ l.store
