use Rattle.std.proofs.Common.{◌≡◌}
use Rattle.kc_table_laws.specs.Tasks.{IsSameSeat}
use Rattle.kc_table_tests.proofs.tests.take.Given as goal

abbrev pub invariant-loop : goal.invariant-loop
invariant-loop l = record {
  table : l.seat.of ≡ l.table;
  same : IsSameSeat l.fn.seat l.seat;
}
