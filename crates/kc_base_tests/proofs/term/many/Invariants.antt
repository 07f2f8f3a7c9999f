use Rattle.std.proofs.Common.{◌≡◌, length}
use Rattle.kc_base_tests.proofs.term.many.Given as goal

abbrev pub invariant-loop-item : goal.invariant-loop-item
invariant-loop-item l = length l.all ≡ l.item-index
