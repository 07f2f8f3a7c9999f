use Rattle.kc_script_small.proofs.Runs.{answers_fit}
use Rattle.kc_script_small.proofs.laws.answers_of_runs_fit.Goals as goal

pub returns : goal.returns
returns c bytes s records order last spells run = answers_fit records order last spells run
