use Rattle.kc_script.proofs.PartFaults.{parts_some, parts_none}
use Rattle.kc_script.proofs.laws.faults_of_parts_are_exact.Goals as goal

pub returns-clause-spells : goal.returns-clause-spells
returns-clause-spells c = parts_some

pub returns-clause-none : goal.returns-clause-none
returns-clause-none c = parts_none
