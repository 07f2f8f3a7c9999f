use Rattle.kc_script_verbs.proofs.Rows.{says_one}
use Rattle.kc_script_verbs.proofs.laws.lines_say_one.Goals as goal

pub returns : goal.returns
returns c = says_one
