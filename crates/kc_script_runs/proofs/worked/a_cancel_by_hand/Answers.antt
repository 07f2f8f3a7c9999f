use Rattle.std.proofs.Common.{refl, lit<}
use Rattle.std.proofs.lemmas.Fmt.{decimal_digit}
use Rattle.kc_loc.specs.Meaning.{loc_program}
use Rattle.kc_script_runs.proofs.worked.a_cancel_by_hand.Goals as goal

pub returns-clause-text : goal.returns-clause-text
returns-clause-text c = rw (decimal_digit 0 (lit< tt), decimal_digit 1 (lit< tt), decimal_digit 2 (lit< tt), decimal_digit 3 (lit< tt), decimal_digit 4 (lit< tt)) refl

pub returns-clause-sets : goal.returns-clause-sets
unfolding loc_program
returns-clause-sets c = refl

pub returns-clause-cancelled : goal.returns-clause-cancelled
unfolding loc_program
returns-clause-cancelled c = refl

pub returns-clause-stranded : goal.returns-clause-stranded
unfolding loc_program
returns-clause-stranded c = refl
