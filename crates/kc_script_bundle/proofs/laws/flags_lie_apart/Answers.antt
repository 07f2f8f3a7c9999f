use Rattle.kc_script_bundle.proofs.Flags.{flagged_at, cleared_at, live_flagged, live_cleared}
use Rattle.kc_script_bundle.proofs.laws.flags_lie_apart.Goals as goal

pub returns-clause-set : goal.returns-clause-set
returns-clause-set c = flagged_at

pub returns-clause-clear : goal.returns-clause-clear
returns-clause-clear c = cleared_at

pub returns-clause-count_set : goal.returns-clause-count_set
returns-clause-count_set c = live_flagged

pub returns-clause-count_clear : goal.returns-clause-count_clear
returns-clause-count_clear c = live_cleared
