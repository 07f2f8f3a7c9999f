use Rattle.kc_limiter.proofs.Giving.{takes}
use Rattle.kc_limiter.proofs.running.work.Goals as goal

pub commit_kept-requires-clause-one : goal.commit_kept-requires-clause-one
commit_kept-requires-clause-one g c = takes c.args.limiter.now c.requires.limiter.0

pub loop-number-preserved : goal.loop-number-preserved
loop-number-preserved g c = c.serving_adds_up.ensures.then _ _ _ (c.serving_adds_up.ensures.then _ _ _ c.loop-number.invariant c.commit_kept.ensures.serves) c.turn_at.ensures
