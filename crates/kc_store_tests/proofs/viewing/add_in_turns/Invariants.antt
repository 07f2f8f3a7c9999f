use Rattle.std.proofs.Common.{◌≡◌}
use Rattle.kc_store_tests.proofs.viewing.add_in_turns.Given as goal

abbrev pub invariant-loop : goal.invariant-loop
invariant-loop g l = l.caller.of ≡ l.store
