use Rattle.std.proofs.Common.{◌≡◌}
use Rattle.kc_uses.proofs.shared.queue_jobs.Given as goal

abbrev pub invariant-loop-job : goal.invariant-loop-job
invariant-loop-job g l = l.client.of ≡ l.store
