use Rattle.kc_store.specs.Knows.{Remembers}
use Rattle.kc_kitchen.proofs.serving.cook_all.Given as goal

abbrev pub invariant-loop : goal.invariant-loop
invariant-loop g l = Remembers l.fn.cook l.cook
