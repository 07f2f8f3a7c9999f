use Rattle.kc_script_bundle.proofs.Standing.{all_one}
use Rattle.kc_script_bundle.proofs.laws.contents_are_one.Goals as goal

pub returns : goal.returns
returns c = all_one
