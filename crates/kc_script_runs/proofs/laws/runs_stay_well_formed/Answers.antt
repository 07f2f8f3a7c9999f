use Rattle.kc_script_runs.proofs.Formed.{run_formed}
use Rattle.kc_script_runs.proofs.laws.runs_stay_well_formed.Goals as goal

pub returns : goal.returns
returns c script records order last lie on run = run_formed script records order last lie on run
