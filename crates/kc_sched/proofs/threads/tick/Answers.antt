use Rattle.kc_sched.proofs.Acts.{staying}
use Rattle.kc_sched.proofs.threads.tick.Goals as goal

pub commit_kept-requires-clause-one : goal.commit_kept-requires-clause-one
commit_kept-requires-clause-one g c = staying c.args.sched.now _ c.release-release.ensures.takes

pub loop-preserved : goal.loop-preserved
loop-preserved g c = c.serving_adds_up.ensures.then _ _ _ c.loop.invariant c.commit_kept.ensures.serves
