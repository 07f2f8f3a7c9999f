use Rattle.kc_script_storm.proofs.Drawn.{state_is_sum}
use Rattle.kc_script_storm.proofs.laws.states_are_sums.Goals as goal

pub returns : goal.returns
returns c = state_is_sum
