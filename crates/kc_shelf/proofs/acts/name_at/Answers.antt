use Rattle.kc_xt.proofs.Chain.{exits, stop_read, then_read, does_true, does_reply, does_false, stop_write, then_write}
use Rattle.std.proofs.Common.{eq-eqb, ne_eqb}
use Rattle.kc_shelf.proofs.acts.name_at.Goals as goal

pub returns-in_err-ticket-clause-goes : goal.returns-in_err-ticket-clause-goes
returns-in_err-ticket-clause-goes g c = exits c.from_residual.ensures.1 (stop_read c.in_err-ticket.ensures.goes)

pub returns-then-slot-eq0-clause-goes : goal.returns-then-slot-eq0-clause-goes
returns-then-slot-eq0-clause-goes g c = then_read c.in_ok-ticket.ensures.goes (rw (← c.slot_of-slot.ensures) (rw (← c.life_of-age.ensures) (does_true _ _ _ (eq-eqb _ _ c.if-slot-eq0.true) does_reply)))

pub returns-in_err-life-clause-goes : goal.returns-in_err-life-clause-goes
returns-in_err-life-clause-goes g c = exits c.from_residual-in_err-life.ensures.1 (then_read c.in_ok-ticket.ensures.goes (rw (← c.slot_of-slot.ensures) (rw (← c.life_of-age.ensures) (does_false _ _ _ (ne_eqb _ _ c.if-slot-eq0.false) (stop_read (rw c.life_at.ensures at c.in_err-life.ensures.goes))))))

pub returns-then-life-age-clause-goes : goal.returns-then-life-age-clause-goes
returns-then-life-age-clause-goes g c = then_read c.in_ok-ticket.ensures.goes (rw (← c.slot_of-slot.ensures) (rw (← c.life_of-age.ensures) (does_false _ _ _ (ne_eqb _ _ c.if-slot-eq0.false) (then_read (rw c.life_at.ensures at c.in_ok-life.ensures.goes) (does_false _ _ _ (ne_eqb _ _ c.if-life-age.true) does_reply)))))

pub returns-in_err-count-clause-goes : goal.returns-in_err-count-clause-goes
returns-in_err-count-clause-goes g c = exits c.from_residual-in_err-count.ensures.1 (then_read c.in_ok-ticket.ensures.goes (rw (← c.slot_of-slot.ensures) (rw (← c.life_of-age.ensures) (does_false _ _ _ (ne_eqb _ _ c.if-slot-eq0.false) (then_read (rw c.life_at.ensures at c.in_ok-life.ensures.goes) (does_true _ _ _ (eq-eqb _ _ c.if-life-age.false) (stop_read (rw c.count_at.ensures at c.in_err-count.ensures.goes))))))))

pub returns-then-count-eq0-clause-goes : goal.returns-then-count-eq0-clause-goes
returns-then-count-eq0-clause-goes g c = then_read c.in_ok-ticket.ensures.goes (rw (← c.slot_of-slot.ensures) (rw (← c.life_of-age.ensures) (does_false _ _ _ (ne_eqb _ _ c.if-slot-eq0.false) (then_read (rw c.life_at.ensures at c.in_ok-life.ensures.goes) (does_true _ _ _ (eq-eqb _ _ c.if-life-age.false) (then_read (rw c.count_at.ensures at c.in_ok-count.ensures.goes) (does_true _ _ _ (eq-eqb _ _ c.if-count-eq0.true) does_reply)))))))

pub returns-then-count-clause-goes : goal.returns-then-count-clause-goes
returns-then-count-clause-goes g c = then_read c.in_ok-ticket.ensures.goes (rw (← c.slot_of-slot.ensures) (rw (← c.life_of-age.ensures) (does_false _ _ _ (ne_eqb _ _ c.if-slot-eq0.false) (then_read (rw c.life_at.ensures at c.in_ok-life.ensures.goes) (does_true _ _ _ (eq-eqb _ _ c.if-life-age.false) (then_read (rw c.count_at.ensures at c.in_ok-count.ensures.goes) (does_false _ _ _ (ne_eqb _ _ c.if-count-eq0.false) (does_true _ _ _ (eq-eqb _ _ c.if-count.true) does_reply))))))))

pub returns-in_err-set-clause-goes : goal.returns-in_err-set-clause-goes
returns-in_err-set-clause-goes g c = exits c.from_residual-in_err-set.ensures.1 (then_read c.in_ok-ticket.ensures.goes (rw (← c.slot_of-slot.ensures) (rw (← c.life_of-age.ensures) (does_false _ _ _ (ne_eqb _ _ c.if-slot-eq0.false) (then_read (rw c.life_at.ensures at c.in_ok-life.ensures.goes) (does_true _ _ _ (eq-eqb _ _ c.if-life-age.false) (then_read (rw c.count_at.ensures at c.in_ok-count.ensures.goes) (does_false _ _ _ (ne_eqb _ _ c.if-count-eq0.false) (does_false _ _ _ (ne_eqb _ _ c.if-count.false) (stop_write (rw c.count_at-2.ensures at c.in_err-set.ensures.goes)))))))))))

pub returns-clause-goes : goal.returns-clause-goes
returns-clause-goes g c = then_read c.in_ok-ticket.ensures.goes (rw (← c.slot_of-slot.ensures) (rw (← c.life_of-age.ensures) (does_false _ _ _ (ne_eqb _ _ c.if-slot-eq0.false) (then_read (rw c.life_at.ensures at c.in_ok-life.ensures.goes) (does_true _ _ _ (eq-eqb _ _ c.if-life-age.false) (then_read (rw c.count_at.ensures at c.in_ok-count.ensures.goes) (does_false _ _ _ (ne_eqb _ _ c.if-count-eq0.false) (does_false _ _ _ (ne_eqb _ _ c.if-count.false) (then_write (rw c.count_at-2.ensures at c.in_ok-set.ensures.goes) does_reply)))))))))
