use Rattle.std.proofs.Common.{◌≡◌}
use Rattle.kc_shelf_tests.proofs.cache.read.Given as goal

abbrev pub invariant-looks : goal.invariant-looks
invariant-looks g l = l.caller.of ≡ l.shop.store
