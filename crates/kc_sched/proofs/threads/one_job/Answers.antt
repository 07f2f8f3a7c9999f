use Rattle.kc_sched.proofs.Acts.{ending, starting}
use Rattle.kc_sched.proofs.threads.one_job.Goals as goal

pub commit_kept-requires-clause-one : goal.commit_kept-requires-clause-one
commit_kept-requires-clause-one g c = starting c.args.sched.now _ c.start-start.ensures.takes

pub commit_kept-requires-then-job-lt-JOBS-clause-one : goal.commit_kept-requires-then-job-lt-JOBS-clause-one
commit_kept-requires-then-job-lt-JOBS-clause-one g c = ending c.args.sched.now c.in-Some-Value.job c.result_of.result _ c.end-end.ensures.takes

pub returns-then-eq : goal.returns-then-eq
returns-then-eq g c = c.serving_adds_up.ensures.then _ _ _ c.commit_kept.ensures.serves c.commit_kept-then-job-lt-JOBS.ensures.serves

pub returns-else-eq : goal.returns-else-eq
returns-else-eq g c = c.serving_adds_up.ensures.then _ _ _ c.commit_kept.ensures.serves c.commit_kept-then-job-lt-JOBS.ensures.serves
