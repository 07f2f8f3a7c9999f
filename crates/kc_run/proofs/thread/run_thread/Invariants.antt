use Rattle.kc_run.proofs.Threads.{RanTo}
use Rattle.kc_run.specs.Shared.{commit_gives}
use Rattle.kc_run.proofs.thread.run_thread.Given as goal

abbrev pub invariant-loop-i : goal.invariant-loop-i
invariant-loop-i g l = RanTo l.limit l.thread (commit_gives g.S.Shared.enters_looks) g.S.Shared.belongs g.S.Shared.number g.S.Shared.left g.S.Shared.own g.S.Shared.opening l.shared l.commands l.fn.job.pass l.job.pass l.job.records l.i
