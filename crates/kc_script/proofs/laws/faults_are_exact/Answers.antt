use Rattle.kc_script.proofs.FirstFaults.{spells_some, spells_none}
use Rattle.kc_script.proofs.laws.faults_are_exact.Goals as goal

pub returns-clause-spells : goal.returns-clause-spells
returns-clause-spells c = spells_some

pub returns-clause-none : goal.returns-clause-none
returns-clause-none c = spells_none
