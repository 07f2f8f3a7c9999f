use Rattle.kc_limiter.proofs.running.ask_for_all.Goals as goal

pub loop-number-preserved : goal.loop-number-preserved
loop-number-preserved g c = c.serving_adds_up.ensures.then _ _ _ c.loop-number.invariant c.ask-said.ensures
