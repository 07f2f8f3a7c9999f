use Rattle.kc_model.proofs.Pens.{puts_then}
use Rattle.kc_script_bundle.proofs.state.put_line.Goals as goal

pub returns : goal.returns
returns g c = puts_then (puts_then (rw c.as_bytes.ensures.value at c.put.ensures) c.put_content.ensures) c.put-2.ensures
