use Rattle.kc_model.proofs.Pens.{puts_then}
use Rattle.kc_script_bundle.proofs.content.put_pair.Goals as goal

pub returns : goal.returns
returns g c = search puts_then depth 12
