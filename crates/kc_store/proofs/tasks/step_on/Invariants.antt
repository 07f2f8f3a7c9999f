use Rattle.std.proofs.Common.{◌≡◌, ◌≢◌, ◌+◌, ◌≤◌, true, false, Some}
use Rattle.kc_hang.specs.kc_machine.Seats.{is_idle}
use Rattle.kc_machine_steps.specs.declared.task.Task.{Task}
use Rattle.kc_machine_steps.specs.declared.task.Told.TheVariants as told
use Rattle.kc_store.specs.Steps.{steps_made}
use Rattle.kc_store.specs.Works.{Runs, is_looking}
use Rattle.kc_hang.specs.kc_table_moves.Views.{SeatView}
use Rattle.kc_hang.specs.kc_table_laws.Tasks.{KeepsKnown}
use Rattle.kc_hang.specs.kc_table_laws.Halts.{may_halt, was_halted}
use Rattle.kc_store.proofs.tasks.step_on.Given as goal

abbrev pub invariant-steps : goal.invariant-steps
invariant-steps l = record {
  of : l.seat.of ≡ l.fn.seat.of;
  shown : l.seat.began ≡ false;
  halts : is_idle l.seat.seat.work ≡ false → may_halt l.seat.seat.work ≡ true;
  runs : (v : SeatView) (t : Task) → Runs v t l.fn.seat → Runs v t l.seat;
  calm : was_halted l.seat.seat ≡ false;
  told : is_idle l.seat.seat.work ≡ true → l.seat.seat.told ≢ Some told.Halted;
  keeps : KeepsKnown l.fn.seat l.seat;
  made : steps_made l.fn.seat + l.fn.left ≤ steps_made l.seat + l.left;
  mute : is_looking l.fn.seat.seat.work l.fn.seat.seat.told ≡ true → (is_looking l.seat.seat.work l.seat.seat.told ≡ true) × (l.wakes ≡ l.fn.wakes);
}

abbrev pub decreases-steps : goal.decreases-steps
decreases-steps l = l.left
