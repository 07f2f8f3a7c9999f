use Rattle.kc_script.proofs.PartLines.{parts_spell_one}
use Rattle.kc_script.proofs.laws.parts_spell_one.Goals as goal

pub returns : goal.returns
returns c = parts_spell_one
