use Rattle.kc_script_bundle.proofs.Standing.{all_show}
use Rattle.kc_script_bundle.proofs.laws.shows_its_contents.Goals as goal

pub returns : goal.returns
returns c = all_show
