use Rattle.std.proofs.Common.{◌≡◌, ◌≤◌, true, false}
use Rattle.kc_hang.specs.kc_machine.Seats.{is_idle}
use Rattle.kc_machine_steps.specs.declared.task.Task.{Task}
use Rattle.kc_store.proofs.Ending.{left_to_the_end}
use Rattle.kc_store.specs.Steps.{steps_made}
use Rattle.kc_store.specs.Works.{MayRun, is_looking}
use Rattle.kc_hang.specs.kc_table_moves.Views.{SeatView}
use Rattle.kc_hang.specs.kc_table_laws.Tasks.{KeepsKnown}
use Rattle.kc_hang.specs.kc_table_laws.Halts.{is_halted}
use Rattle.kc_store.proofs.tasks.step_to_the_end.Given as goal

abbrev pub invariant-steps : goal.invariant-steps
invariant-steps l = record {
  of : l.seat.of ≡ l.fn.seat.of;
  shown : l.seat.began ≡ false;
  halted : is_idle l.seat.seat.work ≡ false → is_halted l.seat.seat ≡ true;
  runs : (v : SeatView) (t : Task) → MayRun v t l.fn.seat → MayRun v t l.seat;
  keeps : KeepsKnown l.fn.seat l.seat;
  made : steps_made l.fn.seat ≤ steps_made l.seat;
  mute : is_looking l.fn.seat.seat.work l.fn.seat.seat.told ≡ true → (is_looking l.seat.seat.work l.seat.seat.told ≡ true) × (l.wakes ≡ l.fn.wakes);
}

abbrev pub decreases-steps : goal.decreases-steps
decreases-steps l = left_to_the_end l.seat.seat
