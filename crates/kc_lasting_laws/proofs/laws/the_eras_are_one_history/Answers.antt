use Rattle.kc_lasting_laws.proofs.Whole.{begins_whole, goes_on_whole, legal_whole, makes_whole}
use Rattle.kc_lasting_laws.proofs.laws.the_eras_are_one_history.Goals as goal

pub returns-clause-legal : goal.returns-clause-legal
returns-clause-legal c = legal_whole

pub returns-clause-makes : goal.returns-clause-makes
returns-clause-makes c = makes_whole

pub returns-clause-goes_on : goal.returns-clause-goes_on
returns-clause-goes_on c = goes_on_whole

pub returns-clause-opening : goal.returns-clause-opening
returns-clause-opening c = begins_whole
