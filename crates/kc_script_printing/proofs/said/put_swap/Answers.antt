use Rattle.kc_model.proofs.Pens.{puts_then}
use Rattle.kc_script_printing.proofs.said.put_swap.Goals as goal

pub returns : goal.returns
returns g c = puts_then c.put.ensures c.put_named.ensures
