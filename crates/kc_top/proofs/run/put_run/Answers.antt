use Rattle.kc_model.proofs.Pens.{puts_then}
use Rattle.kc_top.proofs.run.put_run.Goals as goal

pub returns : goal.returns
returns g c = rw (← c.deref.ensures.value, ← c.order.ensures) (puts_then (puts_then c.put_text.ensures c.put.ensures) c.put_state.ensures)
