use Rattle.kc_script_runs.proofs.Looks.{are_commits}
use Rattle.kc_script_runs.proofs.laws.looks_can_be_left_out.Goals as goal

pub returns : goal.returns
returns c = are_commits
