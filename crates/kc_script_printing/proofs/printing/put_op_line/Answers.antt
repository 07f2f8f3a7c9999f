use Rattle.std.proofs.lemmas.List.{append-nil}
use Rattle.kc_model.proofs.Pens.{puts_then}
use Rattle.kc_script_printing.proofs.printing.put_op_line.Goals as goal

pub returns : goal.returns
returns g c = rw append-nil (puts_then c.put_op.ensures c.put.ensures)
