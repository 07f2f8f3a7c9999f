use Rattle.kc_lasting_laws.proofs.Whole.{answers_raised}
use Rattle.kc_lasting_laws.proofs.laws.replies_hold_in_the_one_history.Goals as goal

pub returns : goal.returns
returns c = answers_raised
