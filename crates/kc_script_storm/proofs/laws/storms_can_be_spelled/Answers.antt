use Rattle.kc_script_storm.proofs.Spelled.{storm_spells}
use Rattle.kc_script_storm.proofs.laws.storms_can_be_spelled.Goals as goal

pub returns : goal.returns
returns c = storm_spells
