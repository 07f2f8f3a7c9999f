use Rattle.kc_xt.proofs.Chain.{exits, stop_read, then_read, does_false, does_reply, does_true, stop_write, then_write}
use Rattle.std.proofs.Common.{eq-eqb, ne_eqb}
use Rattle.kc_shelf.proofs.ShelfLaw.{is_below, isnt_below}
use Rattle.kc_shelf.proofs.acts.renew.Goals as goal

pub returns-in_err-life-clause-goes : goal.returns-in_err-life-clause-goes
returns-in_err-life-clause-goes g c = exits c.from_residual.ensures.1 (stop_read (rw ((c.life_at.ensures, c.slot_of-slot.ensures)) at c.in_err-life.ensures.goes))

pub returns-then-life-age-clause-goes : goal.returns-then-life-age-clause-goes
returns-then-life-age-clause-goes g c = then_read (rw ((c.life_at.ensures, c.slot_of-slot.ensures)) at c.in_ok-life.ensures.goes) (rw (← c.slot_of-slot.ensures) (rw (← c.life_of-age.ensures) (does_false _ _ _ (ne_eqb _ _ c.if-life-age.true) does_reply)))

pub returns-in_err-count-clause-goes : goal.returns-in_err-count-clause-goes
returns-in_err-count-clause-goes g c = exits c.from_residual-in_err-count.ensures.1 (then_read (rw ((c.life_at.ensures, c.slot_of-slot.ensures)) at c.in_ok-life.ensures.goes) (rw (← c.slot_of-slot.ensures) (rw (← c.life_of-age.ensures) (does_true _ _ _ (eq-eqb _ _ c.if-life-age.false) (stop_read (rw c.count_at.ensures at c.in_err-count.ensures.goes))))))

pub returns-then-count-ne0-clause-goes : goal.returns-then-count-ne0-clause-goes
returns-then-count-ne0-clause-goes g c = then_read (rw ((c.life_at.ensures, c.slot_of-slot.ensures)) at c.in_ok-life.ensures.goes) (rw (← c.slot_of-slot.ensures) (rw (← c.life_of-age.ensures) (does_true _ _ _ (eq-eqb _ _ c.if-life-age.false) (then_read (rw c.count_at.ensures at c.in_ok-count.ensures.goes) (does_false _ _ _ (ne_eqb _ _ c.if-count-ne0.true) does_reply)))))

pub returns-then-life-last-clause-goes : goal.returns-then-life-last-clause-goes
returns-then-life-last-clause-goes g c = then_read (rw ((c.life_at.ensures, c.slot_of-slot.ensures)) at c.in_ok-life.ensures.goes) (rw (← c.slot_of-slot.ensures) (rw (← c.life_of-age.ensures) (does_true _ _ _ (eq-eqb _ _ c.if-life-age.false) (then_read (rw c.count_at.ensures at c.in_ok-count.ensures.goes) (does_true _ _ _ (eq-eqb _ _ c.if-count-ne0.false) (rw (← c.last_life-last.ensures) (does_false _ _ _ (isnt_below _ _ c.if-life-last.true) does_reply)))))))

pub returns-in_err-set-clause-goes : goal.returns-in_err-set-clause-goes
returns-in_err-set-clause-goes g c = exits c.from_residual-in_err-set.ensures.1 (then_read (rw ((c.life_at.ensures, c.slot_of-slot.ensures)) at c.in_ok-life.ensures.goes) (rw (← c.slot_of-slot.ensures) (rw (← c.life_of-age.ensures) (does_true _ _ _ (eq-eqb _ _ c.if-life-age.false) (then_read (rw c.count_at.ensures at c.in_ok-count.ensures.goes) (does_true _ _ _ (eq-eqb _ _ c.if-count-ne0.false) (rw (← c.last_life-last.ensures) (does_true _ _ _ (is_below _ _ c.if-life-last.false) (stop_write (rw c.life_at-2.ensures at c.in_err-set.ensures.goes))))))))))

pub returns-in_err-set-2-clause-goes : goal.returns-in_err-set-2-clause-goes
returns-in_err-set-2-clause-goes g c = exits c.from_residual-in_err-set-2.ensures.1 (then_read (rw ((c.life_at.ensures, c.slot_of-slot.ensures)) at c.in_ok-life.ensures.goes) (rw (← c.slot_of-slot.ensures) (rw (← c.life_of-age.ensures) (does_true _ _ _ (eq-eqb _ _ c.if-life-age.false) (then_read (rw c.count_at.ensures at c.in_ok-count.ensures.goes) (does_true _ _ _ (eq-eqb _ _ c.if-count-ne0.false) (rw (← c.last_life-last.ensures) (does_true _ _ _ (is_below _ _ c.if-life-last.false) (then_write (rw c.life_at-2.ensures at c.in_ok-set.ensures.goes) (stop_write (rw c.count_at-2.ensures at c.in_err-set-2.ensures.goes)))))))))))

pub returns-clause-goes : goal.returns-clause-goes
returns-clause-goes g c = then_read (rw ((c.life_at.ensures, c.slot_of-slot.ensures)) at c.in_ok-life.ensures.goes) (rw (← c.slot_of-slot.ensures) (rw (← c.life_of-age.ensures) (does_true _ _ _ (eq-eqb _ _ c.if-life-age.false) (then_read (rw c.count_at.ensures at c.in_ok-count.ensures.goes) (does_true _ _ _ (eq-eqb _ _ c.if-count-ne0.false) (rw (← c.last_life-last.ensures) (does_true _ _ _ (is_below _ _ c.if-life-last.false) (then_write (rw c.life_at-2.ensures at c.in_ok-set.ensures.goes) (then_write (rw c.count_at-2.ensures at c.in_ok-set-2.ensures.goes) (rw (← c.ticket_of.ensures) does_reply))))))))))
