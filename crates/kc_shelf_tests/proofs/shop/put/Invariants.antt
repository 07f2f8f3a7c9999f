use Rattle.std.proofs.Common.{◌≡◌}
use Rattle.kc_shelf_tests.proofs.shop.put.Given as goal

abbrev pub invariant-tries : goal.invariant-tries
invariant-tries g l = l.caller.of ≡ l.shop.store
