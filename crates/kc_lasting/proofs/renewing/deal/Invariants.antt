use Rattle.kc_lasting.proofs.Dealing.{Deals}
use Rattle.kc_lasting.proofs.renewing.deal.Given as goal

abbrev pub invariant-loop-caller : goal.invariant-loop-caller
invariant-loop-caller l = Deals l.fn.store l.era.value.store l.fn.callers.items l.clients.items l.caller-iterator.rest.items
