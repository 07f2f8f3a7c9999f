use Rattle.kc_script_verbs.proofs.Tested.{say_fault}
use Rattle.kc_script_verbs.proofs.laws.commands_are_tested.Goals as goal

pub returns : goal.returns
returns c = λ thread names v args. (say_fault thread names v args).same
