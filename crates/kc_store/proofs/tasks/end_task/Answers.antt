use Rattle.std.proofs.Common.{◌≡◌, ◌∙◌, true, false, sym, subst}
use Rattle.kc_hang.specs.kc_machine.Seats.{is_idle}
use Rattle.kc_store.proofs.Doing.{may_run_halted, runs_may}
use Rattle.kc_store.proofs.Ending.{busy_is, halt_marks}
use Rattle.kc_store.proofs.Standing.{halt_goes}
use Rattle.kc_store.specs.Tries.{look_of}
use Rattle.kc_store.specs.Works.{MayRun, is_looking}
use Rattle.kc_hang.specs.kc_table_moves.Views.{SeatView}
use Rattle.kc_hang.specs.kc_table_laws.Halts.{is_halted}
use Rattle.kc_hang.specs.kc_table_laws.Tasks.{KeepsKnown}
use Rattle.kc_hang.proofs.kc_table_laws.Keeping.{keeps_then}
use Rattle.kc_store.proofs.tasks.end_task.Goals as goal

pub step_to_the_end-requires-clause-halted : goal.step_to_the_end-requires-clause-halted
step_to_the_end-requires-clause-halted c =
    let s = c.step_on.new.seat in
    let busy : is_idle s.seat.work ≡ false = busy_is (is_idle s.seat.work) c.busy.result c.busy.ensures c.if-busy.true in
    subst (λ (z : SeatView). is_idle z.seat.work ≡ false → is_halted z.seat ≡ true) (sym c.halt.ensures) (λ e. halt_marks s.seat (c.step_on.ensures.halts busy) e)

pub returns-then-busy-clause-runs : goal.returns-then-busy-clause-runs
returns-then-busy-clause-runs c = λ v t r. c.step_to_the_end.ensures.runs v t (subst (MayRun v t) (sym c.halt.ensures) (may_run_halted v c.step_on.new.seat t (c.step_on.ensures.runs v t r)))

pub returns-then-busy-clause-keeps : goal.returns-then-busy-clause-keeps
returns-then-busy-clause-keeps c =
    let k = c.step_on.ensures.keeps in
    keeps_then c.args.seat.now c.halt.new.self c.step_to_the_end.new.seat (subst (KeepsKnown c.args.seat.now) (sym c.halt.ensures) (record { of = k.of; number = k.number; past = k.past; grows = k.grows; reads = k.reads; versions = k.versions })) c.step_to_the_end.ensures.keeps

pub returns-then-busy-clause-mute : goal.returns-then-busy-clause-mute
returns-then-busy-clause-mute c = λ e.
    let a = c.step_on.ensures.mute e in
    let looks = subst (λ (z : SeatView). is_looking z.seat.work z.seat.told ≡ true) (sym c.halt.ensures) (halt_goes (look_of 0) c.step_on.new.seat.seat a.0).in_task in
    (c.step_to_the_end.ensures.mute looks).1 ∙ a.1

pub returns-else-busy-clause-mute : goal.returns-else-busy-clause-mute
returns-else-busy-clause-mute c = λ e. (c.step_on.ensures.mute e).1

pub returns-else-busy-clause-runs : goal.returns-else-busy-clause-runs
returns-else-busy-clause-runs c = λ v t r. runs_may v c.step_on.new.seat t (c.step_on.ensures.runs v t r)
