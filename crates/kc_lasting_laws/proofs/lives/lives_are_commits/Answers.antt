use Rattle.kc_lasting_laws.proofs.Living.{lives_at_most}
use Rattle.kc_lasting_laws.proofs.lives.lives_are_commits.Goals as goal

pub returns : goal.returns
returns c = lives_at_most
