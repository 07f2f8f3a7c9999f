use Rattle.kc_keep.specs.Only.{Serves}
use Rattle.kc_sched.specs.Sched.{GoesSo}
use Rattle.kc_sched.proofs.threads.ask.Given as goal

abbrev pub invariant-loop-job : goal.invariant-loop-job
invariant-loop-job g l = Serves (GoesSo l.sched) l.fn.client l.client

abbrev pub invariant-loop-job-2 : goal.invariant-loop-job-2
invariant-loop-job-2 g l = Serves (GoesSo l.sched) l.fn.client l.client
