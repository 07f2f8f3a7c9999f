use Rattle.kc_script_verbs.proofs.ObjectRows.{declares_one}
use Rattle.kc_script_verbs.proofs.laws.lines_declare_one.Goals as goal

pub returns : goal.returns
returns c = declares_one
