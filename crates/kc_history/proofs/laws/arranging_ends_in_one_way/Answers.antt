use Rattle.kc_history.proofs.Choice.{stuck_or_all, one_stuck}
use Rattle.kc_history.proofs.laws.arranging_ends_in_one_way.Goals as goal

pub returns-clause-apart : goal.returns-clause-apart
returns-clause-apart c a ps d x y = stuck_or_all a ps d x y

pub returns-clause-one : goal.returns-clause-one
returns-clause-one c a d e x y = one_stuck a d e x y
