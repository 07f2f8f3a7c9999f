use Rattle.std.proofs.Common.{◌≡◌, length}
use Rattle.kc_base_tests.proofs.term.the_second_alternative_is_not_run_where_the_first_is_too_large.Given as goal

abbrev pub invariant-loop-at : goal.invariant-loop-at
invariant-loop-at g l = length l.xt.peek ≡ length l.initial.xt.peek
