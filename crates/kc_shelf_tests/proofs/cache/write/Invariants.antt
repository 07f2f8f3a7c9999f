use Rattle.std.proofs.Common.{◌≡◌}
use Rattle.kc_shelf_tests.proofs.cache.write.Given as goal

abbrev pub invariant-values : goal.invariant-values
invariant-values g l = l.caller.of ≡ l.shop.store
