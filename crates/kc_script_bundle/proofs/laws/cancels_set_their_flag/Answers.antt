use Rattle.kc_script_bundle.proofs.Alive.{cancel_sets}
use Rattle.kc_script_bundle.proofs.laws.cancels_set_their_flag.Goals as goal

pub returns : goal.returns
returns c = cancel_sets
