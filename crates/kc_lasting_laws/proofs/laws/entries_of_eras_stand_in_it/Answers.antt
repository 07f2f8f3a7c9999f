use Rattle.kc_lasting_laws.proofs.Whole.{entry_whole, handle_whole, stands_whole}
use Rattle.kc_lasting_laws.proofs.laws.entries_of_eras_stand_in_it.Goals as goal

pub returns-clause-entry : goal.returns-clause-entry
returns-clause-entry c = entry_whole

pub returns-clause-all : goal.returns-clause-all
returns-clause-all c = stands_whole

pub returns-clause-handle : goal.returns-clause-handle
returns-clause-handle c = handle_whole
