use Rattle.kc_script_verbs.proofs.Rows.{says_on}
use Rattle.kc_script_verbs.proofs.laws.says_on_objects.Goals as goal

pub returns : goal.returns
returns c = says_on
