use Rattle.kc_kitchen.proofs.serving.cook_all.Goals as goal

pub loop-preserved : goal.loop-preserved
loop-preserved g c = c.what_is_known_stays_known.ensures.remembers c.args.cook c.loop.cook c.commit.new.caller c.loop.invariant c.commit.ensures.remembers
