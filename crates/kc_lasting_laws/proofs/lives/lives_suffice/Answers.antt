use Rattle.kc_lasting_laws.proofs.Losing.{lives_suffice}
use Rattle.kc_lasting_laws.proofs.lives.lives_suffice.Goals as goal

pub returns : goal.returns
returns c = lives_suffice
