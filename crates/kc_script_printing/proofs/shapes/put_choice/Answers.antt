use Rattle.kc_model.proofs.Pens.{puts_then}
use Rattle.kc_script_printing.proofs.shapes.put_choice.Goals as goal

pub returns : goal.returns
returns g c = puts_then c.put.ensures (puts_then c.put-2.ensures (puts_then c.put-3.ensures (puts_then c.put-4.ensures (puts_then c.put-5.ensures (puts_then c.put-6.ensures c.put_number.ensures)))))
