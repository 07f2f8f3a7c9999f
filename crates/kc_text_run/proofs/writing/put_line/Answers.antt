use Rattle.kc_model.proofs.Pens.{puts_then}
use Rattle.kc_text_run.proofs.writing.put_line.Goals as goal

pub returns : goal.returns
returns g c = puts_then (rw c.bytes.ensures.same at c.put.ensures) c.put-2.ensures
