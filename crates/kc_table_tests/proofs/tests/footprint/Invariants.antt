use Rattle.std.proofs.Common.{◌≡◌}
use Rattle.kc_table_tests.proofs.tests.footprint.Given as goal

abbrev pub invariant-loop-i : goal.invariant-loop-i
invariant-loop-i l = l.footprint.reads.items ≡ l.fn.reads
