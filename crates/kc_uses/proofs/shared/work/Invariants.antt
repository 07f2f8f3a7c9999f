use Rattle.std.proofs.Common.{◌≡◌}
use Rattle.kc_uses.proofs.shared.work.Given as goal

abbrev pub invariant-loop : goal.invariant-loop
invariant-loop g l = l.worker.of ≡ l.store
