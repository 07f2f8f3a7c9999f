use Rattle.std.proofs.Common.{◌≡◌}
use Rattle.kc_shelf_tests.proofs.requests.make.Given as goal

abbrev pub invariant-requests : goal.invariant-requests
invariant-requests g l = l.caller.of ≡ l.shop.store
