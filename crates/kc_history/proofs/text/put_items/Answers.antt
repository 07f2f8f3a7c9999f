use Rattle.kc_history.proofs.Lines.{first_item}
use Rattle.kc_model.proofs.Pens.{puts_then}
use Rattle.kc_history.proofs.text.put_items.Goals as goal

pub returns : goal.returns
returns g c = rw (← first_item c.args.items.now c.get.result c.get.ensures) (puts_then c.put_item.ensures c.put_later_items.ensures)
