use Rattle.kc_model.proofs.Pens.{puts_then}
use Rattle.kc_script_bundle.proofs.content.put_number.Goals as goal

pub returns : goal.returns
returns g c = puts_then c.put.ensures c.put_number.ensures
