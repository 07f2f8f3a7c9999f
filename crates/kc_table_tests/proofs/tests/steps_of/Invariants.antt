use Rattle.std.proofs.Common.{◌≡◌, All}
use Rattle.kc_table_laws.specs.Tasks.{IsSameSeat, KnowsRead}
use Rattle.kc_table_tests.proofs.tests.steps_of.Given as goal

abbrev pub invariant-loop-made : goal.invariant-loop-made
invariant-loop-made l = record {
  table : l.seat.of ≡ l.table;
  same : IsSameSeat l.fn.seat l.seat;
  reads : All (KnowsRead l.seat) l.reads;
}
