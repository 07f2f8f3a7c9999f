use Rattle.kc_script.proofs.Again.{canonical_spells}
use Rattle.kc_script.proofs.laws.canonical_text_spells.Goals as goal

pub returns : goal.returns
returns c = canonical_spells
