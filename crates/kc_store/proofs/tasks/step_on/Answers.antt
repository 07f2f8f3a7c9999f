use Rattle.std.proofs.Common.{◌≡◌, ◌∙◌, false, true, refl, sym, arith}
use Rattle.kc_hang.specs.kc_machine.Seats.{is_idle}
use Rattle.kc_hang.proofs.kc_table_laws.Keeping.{keeps_same, keeps_then, steps_keep}
use Rattle.kc_store.proofs.Counting.{step_counts}
use Rattle.kc_store.proofs.Doing.{runs_further}
use Rattle.kc_store.proofs.Mute.{looks_mutely}
use Rattle.kc_store.proofs.Ending.{busy_is}
use Rattle.kc_store.proofs.Standing.{kind_kept}
use Rattle.kc_hang.proofs.kc_table_laws.Stopping.{free_on}
use Rattle.kc_store.proofs.tasks.step_on.Goals as goal

pub steps-init : goal.steps-init
steps-init c = record {
  of = refl;
  shown = c.requires.shown;
  halts = λ _. c.requires.halts;
  runs = λ v t r. r;
  calm = c.requires.calm;
  told = λ e. let k : false ≡ true = sym c.requires.busy ∙ e in absurd (cc);
  keeps = keeps_same c.args.seat.now;
  made = omega arith;
  mute = λ e. (e, refl);
}

pub steps-preserved : goal.steps-preserved
steps-preserved c =
    let busy : is_idle c.steps.seat.seat.work ≡ false = busy_is (is_idle c.steps.seat.seat.work) c.busy.result c.busy.ensures c.if-busy.true in
    let free = free_on c.steps.seat c.step.new.seat c.step.ensures.stepped busy c.steps.invariant.calm in
    let n = step_counts c.steps.seat c.step.new.seat c.step.ensures.stepped in
    let m = c.steps.invariant.made in
    record {
      of = c.step.ensures.stepped.of ∙ c.steps.invariant.of;
      shown = c.step.ensures.stepped.began;
      halts = kind_kept c.steps.seat c.step.new.seat c.step.ensures.stepped busy (c.steps.invariant.halts busy);
      runs = λ v t r. runs_further v c.steps.seat c.step.new.seat t (c.steps.invariant.runs v t r) busy c.step.ensures.stepped;
      calm = free.1;
      told = λ _. free.0;
      keeps = keeps_then c.args.seat.now c.steps.seat c.step.new.seat c.steps.invariant.keeps (steps_keep c.steps.seat c.step.new.seat c.step.ensures.stepped);
      made = omega (arith, n, m);
      mute = λ e. looks_mutely c.steps.seat c.step.new.seat c.steps.wakes c.step.new.wakes c.step.ensures.stepped busy c.step.ensures.wakes c.args.wakes.now (c.steps.invariant.mute e);
    }
