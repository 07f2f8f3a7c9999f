use Rattle.kc_xt.proofs.Chain.{exits, stop_read, then_read, does_true, stop_write, then_write, does_reply, does_false, does_retry}
use Rattle.std.proofs.Common.{◌∙◌, sym, eq-eqb, ne_eqb}
use Rattle.kc_script_runs.proofs.ask.run_alone.Goals as goal

pub returns-in_err-value-clause-goes : goal.returns-in_err-value-clause-goes
returns-in_err-value-clause-goes g c = exits c.from_residual.ensures.1 (stop_read c.in_err-value.ensures.goes)

pub returns-in_err-set-clause-goes : goal.returns-in_err-set-clause-goes
returns-in_err-set-clause-goes g c = exits c.from_residual-in_err-set.ensures.1 (then_read c.in_ok-value.ensures.goes (does_true _ _ _ (sym c.is_flagged.ensures ∙ c.if-is_flagged.true) (rw (← c.cleared.ensures) (stop_write c.in_err-set.ensures.goes))))

pub returns-then-is_flagged-clause-goes : goal.returns-then-is_flagged-clause-goes
returns-then-is_flagged-clause-goes g c = then_read c.in_ok-value.ensures.goes (does_true _ _ _ (sym c.is_flagged.ensures ∙ c.if-is_flagged.true) (rw (← c.cleared.ensures) (then_write c.in_ok-set.ensures.goes does_reply)))

pub returns-then-live_threads-eq1-clause-goes : goal.returns-then-live_threads-eq1-clause-goes
returns-then-live_threads-eq1-clause-goes g c = then_read c.in_ok-value.ensures.goes (does_false _ _ _ (sym c.is_flagged.ensures ∙ c.if-is_flagged.false) (rw (← c.live_threads.ensures) (does_true _ _ _ (eq-eqb _ _ c.if-live_threads-eq1.true) does_reply)))

pub returns-clause-goes : goal.returns-clause-goes
returns-clause-goes g c = then_read c.in_ok-value.ensures.goes (does_false _ _ _ (sym c.is_flagged.ensures ∙ c.if-is_flagged.false) (rw (← c.live_threads.ensures) (does_false _ _ _ (ne_eqb _ _ c.if-live_threads-eq1.false) does_retry)))
