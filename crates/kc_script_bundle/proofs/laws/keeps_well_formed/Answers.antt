use Rattle.kc_script_bundle.proofs.Commands.{command_keeps}
use Rattle.kc_script_bundle.proofs.laws.keeps_well_formed.Goals as goal

pub returns : goal.returns
returns c = command_keeps
