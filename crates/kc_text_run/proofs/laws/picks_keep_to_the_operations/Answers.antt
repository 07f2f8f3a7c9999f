use Rattle.kc_text_laws.specs.Owning.{none_held}
use Rattle.kc_text_run.proofs.Picks.{picks_keep}
use Rattle.kc_text_run.proofs.laws.picks_keep_to_the_operations.Goals as goal

pub returns : goal.returns
returns c = λ t p picks es place texts h. picks_keep t p place picks es none_held texts h
