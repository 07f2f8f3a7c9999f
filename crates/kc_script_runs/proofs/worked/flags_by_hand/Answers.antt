use Rattle.std.proofs.Common.{refl}
use Rattle.kc_loc.specs.Meaning.{loc_program}
use Rattle.kc_script_runs.proofs.worked.flags_by_hand.Goals as goal

pub returns-clause-stranded : goal.returns-clause-stranded
unfolding loc_program
returns-clause-stranded c = refl

pub returns-clause-waits : goal.returns-clause-waits
unfolding loc_program
returns-clause-waits c = refl

pub returns-clause-own : goal.returns-clause-own
unfolding loc_program
returns-clause-own c = refl

pub returns-clause-end : goal.returns-clause-end
unfolding loc_program
returns-clause-end c = refl

pub returns-clause-given_up : goal.returns-clause-given_up
unfolding loc_program
returns-clause-given_up c = refl

pub returns-clause-large : goal.returns-clause-large
unfolding loc_program
returns-clause-large c = refl
