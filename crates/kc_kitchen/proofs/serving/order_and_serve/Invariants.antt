use Rattle.kc_store.specs.Knows.{Remembers}
use Rattle.kc_kitchen.proofs.serving.order_and_serve.Given as goal

abbrev pub invariant-loop-dish : goal.invariant-loop-dish
invariant-loop-dish g l = Remembers l.fn.waiter l.waiter
