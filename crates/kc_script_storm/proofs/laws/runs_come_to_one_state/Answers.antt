use Rattle.kc_script_storm.proofs.Drawn.{storm_commits, storm_oks, storm_values}
use Rattle.kc_script_storm.proofs.laws.runs_come_to_one_state.Goals as goal

pub returns-clause-commits : goal.returns-clause-commits
returns-clause-commits c = storm_commits

pub returns-clause-oks : goal.returns-clause-oks
returns-clause-oks c = storm_oks

pub returns-clause-state : goal.returns-clause-state
returns-clause-state c = storm_values
