use Rattle.kc_keep.specs.Only.{Serves}
use Rattle.kc_sums.specs.Sums.{IsOfBank}
use Rattle.kc_sums.proofs.running.transfer_all.Given as goal

abbrev pub invariant-loop : goal.invariant-loop
invariant-loop g l = Serves (IsOfBank l.bank) l.fn.caller l.caller
