use Rattle.kc_sched.proofs.threads.work.Goals as goal

pub loop-preserved : goal.loop-preserved
loop-preserved g c = c.serving_adds_up.ensures.then _ _ _ c.loop.invariant c.one_job.ensures
