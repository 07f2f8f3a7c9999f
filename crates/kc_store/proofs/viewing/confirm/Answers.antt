use Rattle.std.proofs.Common.{◌≡◌, ◌∙◌, All, Bool, false, not, refl, subst, sym, true}
use Rattle.kc_hang.proofs.kc_table_laws.Keeping.{keeps_same}
use Rattle.kc_hang.specs.kc_machine.Seats.{is_idle}
use Rattle.kc_machine_steps.specs.declared.task.Task.TheVariants as task
use Rattle.kc_store.proofs.Glancing.{all_within, looks_calmly, looks_may_halt, looks_straight, row_confirms, row_glances, until_ended, until_glances, until_of, until_runs, until_within}
use Rattle.kc_table.specs.Turns.{LooksAgain, LooksUntil, is_read_below}
use Rattle.kc_store.proofs.viewing.confirm.Goals as goal

-- the negation of a truth
undone : (b : Bool) → not b ≡ true → b ≡ false
undone false e = refl
undone true e = absurd (cc)

done : (b : Bool) → not b ≡ false → b ≡ true
done true e = refl
done false e = absurd (cc)

pub look_again-requires-clause-within : goal.look_again-requires-clause-within
look_again-requires-clause-within c =
    let k = c.args.seat.now.of.origin.locations in
    subst (All (is_read_below k)) (sym c.as_slice.ensures.value) (all_within k c.args.footprint.now.reads.items c.requires.below)

pub returns-then-look_again-clause-confirmed : goal.returns-then-look_again-clause-confirmed
returns-then-look_again-clause-confirmed c = λ e.
    let v = c.args.seat.now in
    let w = c.look_again.new.seat in
    let rs = c.args.footprint.now.reads.items in
    row_confirms v w rs c.requires.idle c.requires.below c.requires.known (subst (λ z. LooksAgain v z w) c.as_slice.ensures.value (c.look_again.ensures.all c.if-look_again.true))

pub returns-then-look_again-clause-again : goal.returns-then-look_again-clause-again
returns-then-look_again-clause-again c = λ e. subst (λ z. LooksAgain c.args.seat.now z c.look_again.new.seat) c.as_slice.ensures.value (c.look_again.ensures.all c.if-look_again.true)

pub returns-then-look_again-clause-goes : goal.returns-then-look_again-clause-goes
returns-then-look_again-clause-goes c =
    let v = c.args.seat.now in
    let w = c.look_again.new.seat in
    let rs = c.args.footprint.now.reads.items in
    row_glances v w rs c.requires.idle c.requires.below (subst (λ z. LooksAgain v z w) c.as_slice.ensures.value (c.look_again.ensures.all c.if-look_again.true))

pub end_look-requires-clause-table : goal.end_look-requires-clause-table
end_look-requires-clause-table c =
    let v = c.args.seat.now in
    let w = c.look_again.new.seat in
    let rs = c.args.footprint.now.reads.items in
    let a = subst (λ z. LooksUntil v z w) c.as_slice.ensures.value (c.look_again.ensures.until c.if-look_again.false) in
    until_of v w rs c.requires.idle c.requires.below a ∙ c.requires.table

pub end_look-requires-clause-calm : goal.end_look-requires-clause-calm
end_look-requires-clause-calm c =
    let v = c.args.seat.now in
    let w = c.look_again.new.seat in
    let rs = c.args.footprint.now.reads.items in
    let a = subst (λ z. LooksUntil v z w) c.as_slice.ensures.value (c.look_again.ensures.until c.if-look_again.false) in
    looks_calmly a.u w a.r.loc (until_glances v w rs c.requires.idle c.requires.below a).advances.idle (until_within v w rs c.requires.idle c.requires.below a) a.quiet

pub end_look-requires-clause-halts : goal.end_look-requires-clause-halts
end_look-requires-clause-halts c =
    let v = c.args.seat.now in
    let w = c.look_again.new.seat in
    let rs = c.args.footprint.now.reads.items in
    let a = subst (λ z. LooksUntil v z w) c.as_slice.ensures.value (c.look_again.ensures.until c.if-look_again.false) in
    looks_may_halt a.u w a.r.loc (until_glances v w rs c.requires.idle c.requires.below a).advances.idle (until_within v w rs c.requires.idle c.requires.below a) a.quiet (undone (is_idle w.seat.work) (sym c.busy.ensures ∙ c.if-busy.true))

pub end_look-requires-clause-looks : goal.end_look-requires-clause-looks
end_look-requires-clause-looks c =
    let v = c.args.seat.now in
    let w = c.look_again.new.seat in
    let rs = c.args.footprint.now.reads.items in
    let a = subst (λ z. LooksUntil v z w) c.as_slice.ensures.value (c.look_again.ensures.until c.if-look_again.false) in
    (until_runs v w rs c.requires.idle c.requires.below a).stands.in_task

pub returns-then-busy-clause-goes : goal.returns-then-busy-clause-goes
returns-then-busy-clause-goes c =
    let v = c.args.seat.now in
    let w = c.look_again.new.seat in
    let rs = c.args.footprint.now.reads.items in
    let a = subst (λ z. LooksUntil v z w) c.as_slice.ensures.value (c.look_again.ensures.until c.if-look_again.false) in
    until_ended v w rs c.requires.idle c.requires.below a c.end_look.new.seat (c.end_look.ensures.runs a.u (task.Look a.r.loc) (until_runs v w rs c.requires.idle c.requires.below a)) c.end_look.ensures.idle

pub returns-then-busy-clause-missed : goal.returns-then-busy-clause-missed
returns-then-busy-clause-missed c = λ e.
    let v = c.args.seat.now in
    let w = c.look_again.new.seat in
    let rs = c.args.footprint.now.reads.items in
    let a = subst (λ z. LooksUntil v z w) c.as_slice.ensures.value (c.look_again.ensures.until c.if-look_again.false) in
    record { last = w; until = a; behind = c.end_look.ensures.keeps; ended = (c.end_look.ensures.runs a.u (task.Look a.r.loc) (until_runs v w rs c.requires.idle c.requires.below a)).did }

pub returns-else-busy-clause-missed : goal.returns-else-busy-clause-missed
returns-else-busy-clause-missed c = λ e.
    let v = c.args.seat.now in
    let w = c.look_again.new.seat in
    let rs = c.args.footprint.now.reads.items in
    let a = subst (λ z. LooksUntil v z w) c.as_slice.ensures.value (c.look_again.ensures.until c.if-look_again.false) in
    let idle = (until_glances v w rs c.requires.idle c.requires.below a).advances.idle in
    record { last = w; until = a; behind = keeps_same w; ended = (looks_straight a.u w a.r.loc idle (until_within v w rs c.requires.idle c.requires.below a) a.quiet).did }

pub returns-else-busy-clause-goes : goal.returns-else-busy-clause-goes
returns-else-busy-clause-goes c =
    let v = c.args.seat.now in
    let w = c.look_again.new.seat in
    let rs = c.args.footprint.now.reads.items in
    let a = subst (λ z. LooksUntil v z w) c.as_slice.ensures.value (c.look_again.ensures.until c.if-look_again.false) in
    let idle = (until_glances v w rs c.requires.idle c.requires.below a).advances.idle in
    until_ended v w rs c.requires.idle c.requires.below a w (looks_straight a.u w a.r.loc idle (until_within v w rs c.requires.idle c.requires.below a) a.quiet) (done (is_idle w.seat.work) (sym c.busy.ensures ∙ c.if-busy.false))
