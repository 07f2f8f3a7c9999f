use Rattle.kc_shelf_laws.proofs.Opening.{opens}
use Rattle.kc_shelf_laws.proofs.laws.opens_with_no_names.Goals as goal

pub returns : goal.returns
returns c = opens
