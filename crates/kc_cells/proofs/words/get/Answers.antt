use Rattle.kc_xt.proofs.Chain.{exits, stop_read, then_read, does_reply}
use Rattle.kc_cells.proofs.words.get.Goals as goal

pub returns-in_err-low-clause-goes : goal.returns-in_err-low-clause-goes
returns-in_err-low-clause-goes g c = exits c.from_residual.ensures.1 (stop_read c.in_err-low.ensures.goes)

pub returns-in_err-high-clause-goes : goal.returns-in_err-high-clause-goes
returns-in_err-high-clause-goes g c = exits c.from_residual-in_err-high.ensures.1 (then_read c.in_ok-low.ensures.goes (stop_read c.in_err-high.ensures.goes))

pub returns-clause-goes : goal.returns-clause-goes
returns-clause-goes g c = then_read c.in_ok-low.ensures.goes (then_read c.in_ok-high.ensures.goes (rw (← c.words.ensures) does_reply))
