use Rattle.kc_keep.specs.Only.{Serves}
use Rattle.kc_sched.specs.Sched.{GoesSo}
use Rattle.kc_sched.proofs.threads.tick.Given as goal

abbrev pub invariant-loop : goal.invariant-loop
invariant-loop g l = Serves (GoesSo l.sched) l.fn.clock l.clock
