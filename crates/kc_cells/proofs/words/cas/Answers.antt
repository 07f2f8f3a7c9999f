use Rattle.kc_xt.proofs.Chain.{exits, stop_read, then_read, does_true, stop_write, then_write, does_reply, does_false}
use Rattle.std.proofs.Common.{eq-eqb, ne_eqb}
use Rattle.kc_cells.proofs.words.cas.Goals as goal

pub returns-in_err-low-clause-goes : goal.returns-in_err-low-clause-goes
returns-in_err-low-clause-goes g c = exits c.from_residual.ensures.1 (stop_read c.in_err-low.ensures.goes)

pub returns-in_err-high-clause-goes : goal.returns-in_err-high-clause-goes
returns-in_err-high-clause-goes g c = exits c.from_residual-in_err-high.ensures.1 (then_read c.in_ok-low.ensures.goes (stop_read c.in_err-high.ensures.goes))

pub returns-in_err-set-clause-goes : goal.returns-in_err-set-clause-goes
returns-in_err-set-clause-goes g c = exits c.from_residual-in_err-set.ensures.1 (then_read c.in_ok-low.ensures.goes (then_read c.in_ok-high.ensures.goes (rw (← c.number_of-number.ensures.is) (does_true _ _ _ (eq-eqb _ _ c.if-number-before.true) (stop_write (rw c.low_of.ensures at c.in_err-set.ensures.goes))))))

pub returns-in_err-set-2-clause-goes : goal.returns-in_err-set-2-clause-goes
returns-in_err-set-2-clause-goes g c = exits c.from_residual-in_err-set-2.ensures.1 (then_read c.in_ok-low.ensures.goes (then_read c.in_ok-high.ensures.goes (rw (← c.number_of-number.ensures.is) (does_true _ _ _ (eq-eqb _ _ c.if-number-before.true) (then_write (rw c.low_of.ensures at c.in_ok-set.ensures.goes) (stop_write (rw c.high_of.ensures at c.in_err-set-2.ensures.goes)))))))

pub returns-then-number-before-clause-goes : goal.returns-then-number-before-clause-goes
returns-then-number-before-clause-goes g c = then_read c.in_ok-low.ensures.goes (then_read c.in_ok-high.ensures.goes (rw (← c.number_of-number.ensures.is) (does_true _ _ _ (eq-eqb _ _ c.if-number-before.true) (then_write (rw c.low_of.ensures at c.in_ok-set.ensures.goes) (then_write (rw c.high_of.ensures at c.in_ok-set-2.ensures.goes) does_reply)))))

pub returns-clause-goes : goal.returns-clause-goes
returns-clause-goes g c = then_read c.in_ok-low.ensures.goes (then_read c.in_ok-high.ensures.goes (rw (← c.number_of-number.ensures.is) (does_false _ _ _ (ne_eqb _ _ c.if-number-before.false) does_reply)))
