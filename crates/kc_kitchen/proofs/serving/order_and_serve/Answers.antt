use Rattle.kc_kitchen.proofs.serving.order_and_serve.Goals as goal

pub loop-dish-preserved : goal.loop-dish-preserved
loop-dish-preserved g c =
    let then = c.what_is_known_stays_known.ensures.remembers in
    then c.args.waiter c.loop-dish.waiter c.commit-in-loop-dish.new.caller c.loop-dish.invariant (then c.loop-dish.waiter c.commit.new.caller c.commit-in-loop-dish.new.caller c.commit.ensures.remembers c.commit-in-loop-dish.ensures.remembers)
