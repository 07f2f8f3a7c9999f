use Rattle.kc_sched.proofs.Acts.{awaiting}
use Rattle.kc_sched.proofs.threads.ask.Goals as goal

pub commit_kept-requires-clause-one : goal.commit_kept-requires-clause-one
commit_kept-requires-clause-one g c = awaiting c.args.sched.now _ _ c.await_end-end.ensures.takes

pub loop-job-preserved : goal.loop-job-preserved
loop-job-preserved g c = c.serving_adds_up.ensures.then _ _ _ c.loop-job.invariant c.submit.ensures

pub loop-job-2-preserved : goal.loop-job-2-preserved
loop-job-2-preserved g c = c.serving_adds_up.ensures.then _ _ _ c.loop-job-2.invariant c.commit_kept.ensures.serves
