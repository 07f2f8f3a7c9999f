use Rattle.kc_sched.proofs.Acts.{cancelling, submitting}
use Rattle.kc_sched.proofs.threads.submit.Goals as goal

pub commit_kept-requires-clause-one : goal.commit_kept-requires-clause-one
commit_kept-requires-clause-one g c = submitting c.args.sched.now c.args.job _ c.submit-enter.ensures.takes

pub commit_kept-requires-then-job-eq1-clause-one : goal.commit_kept-requires-then-job-eq1-clause-one
commit_kept-requires-then-job-eq1-clause-one g c = cancelling c.args.sched.now c.args.job _ c.cancel-cancel.ensures.takes

pub returns-then-eq-2 : goal.returns-then-eq-2
returns-then-eq-2 g c = c.serving_adds_up.ensures.then _ _ _ c.commit_kept.ensures.serves c.commit_kept-then-job-eq1.ensures.serves

pub returns-else-eq-2 : goal.returns-else-eq-2
returns-else-eq-2 g c = c.serving_adds_up.ensures.then _ _ _ c.commit_kept.ensures.serves c.commit_kept-then-job-eq1.ensures.serves
