use Rattle.kc_script.proofs.Agree.{spells_one}
use Rattle.kc_script.proofs.laws.bytes_spell_one.Goals as goal

pub returns : goal.returns
returns c = spells_one
