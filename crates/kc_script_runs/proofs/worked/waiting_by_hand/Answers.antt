use Rattle.std.proofs.Common.{refl}
use Rattle.kc_loc.specs.Meaning.{loc_program}
use Rattle.kc_script_runs.proofs.worked.waiting_by_hand.Goals as goal

pub returns-clause-stranded : goal.returns-clause-stranded
unfolding loc_program
returns-clause-stranded c = refl

pub returns-clause-waits : goal.returns-clause-waits
unfolding loc_program
returns-clause-waits c = refl

pub returns-clause-end : goal.returns-clause-end
unfolding loc_program
returns-clause-end c = refl
