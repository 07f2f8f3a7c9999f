use Rattle.std.proofs.Common.{◌≡◌, false, All}
use Rattle.kc_machine_steps.specs.declared.task.Task.TheVariants as task
use Rattle.kc_table_laws.specs.Tasks.{DoesTask, KnowsRead}
use Rattle.kc_table_tests.proofs.tests.look.Given as goal

abbrev pub invariant-loop : goal.invariant-loop
invariant-loop l = record {
  table : l.seat.of ≡ l.table;
  began : l.seat.began ≡ false;
  does : DoesTask l.fn.seat (task.Look l.fn.loc) l.seat;
  reads : All (KnowsRead l.seat) l.reads;
}
