use Rattle.kc_keep.specs.Only.{Serves}
use Rattle.kc_limiter.specs.Limits.{GivesSo}
use Rattle.kc_limiter.proofs.running.work.Given as goal

abbrev pub invariant-loop-number : goal.invariant-loop-number
invariant-loop-number g l = Serves (GivesSo l.limiter) l.fn.worker l.worker
