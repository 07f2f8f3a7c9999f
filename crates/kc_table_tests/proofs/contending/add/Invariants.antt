use Rattle.std.proofs.Common.{◌≡◌}
use Rattle.kc_table_laws.specs.Tasks.{IsSameSeat}
use Rattle.kc_table_tests.proofs.contending.add.Given as goal

abbrev pub invariant-loop : goal.invariant-loop
invariant-loop l = record {
  first : IsSameSeat l.fn.first l.first;
  second : l.second.of ≡ l.table;
}
