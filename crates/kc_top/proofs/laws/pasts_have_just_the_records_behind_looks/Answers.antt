use Rattle.kc_top.proofs.Commits.{looked_just}
use Rattle.kc_top.proofs.laws.pasts_have_just_the_records_behind_looks.Goals as goal

pub returns : goal.returns
returns c = looked_just
