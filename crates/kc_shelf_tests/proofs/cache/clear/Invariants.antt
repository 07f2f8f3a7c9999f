use Rattle.std.proofs.Common.{◌≡◌}
use Rattle.kc_shelf_tests.proofs.cache.clear.Given as goal

abbrev pub invariant-places : goal.invariant-places
invariant-places g l = l.caller.of ≡ l.shop.store
