use Rattle.kc_script.proofs.Printed.{again_spells, again_refused}
use Rattle.kc_script.proofs.laws.printed_is_parsed_again.Goals as goal

pub returns-clause-bundle : goal.returns-clause-bundle
returns-clause-bundle c = again_spells

pub returns-clause-memory : goal.returns-clause-memory
returns-clause-memory c = again_refused
