use Rattle.std.proofs.Common.{◌≡◌, length}
use Rattle.kc_base_tests.proofs.term.the_first_of_two_rows_is_taken_back_where_it_waits.Given as goal

abbrev pub invariant-loop-at : goal.invariant-loop-at
invariant-loop-at g l = length l.xt.peek ≡ length l.initial.xt.peek
