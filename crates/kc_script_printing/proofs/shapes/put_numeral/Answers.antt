use Rattle.kc_model.proofs.Pens.{puts_then}
use Rattle.kc_script_printing.proofs.shapes.put_numeral.Goals as goal

pub returns : goal.returns
returns g c = puts_then c.put.ensures (puts_then c.put-2.ensures c.put_number.ensures)
