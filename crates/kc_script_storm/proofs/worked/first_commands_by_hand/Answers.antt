use Rattle.std.proofs.Common.{◌≡◌, ℕ, zero, suc, Some, refl}
use Rattle.std.specs.Prelude.{slice_get}
use Rattle.kc_script_storm.specs.Storm.{next_draw, drawn_command, drawn_commands}
use Rattle.kc_script_storm.proofs.worked.first_commands_by_hand.Goals as goal

-- the first of some commands
first_is : (thread count s : ℕ) → slice_get (drawn_commands thread (suc count) s) zero ≡ Some (drawn_command thread (next_draw s))
unfolding drawn_commands
first_is thread count s = refl

pub returns-clause-first : goal.returns-clause-first
returns-clause-first c = first_is 1 1999 1

pub returns-clause-second : goal.returns-clause-second
returns-clause-second c = first_is 2 1999 2

pub returns-clause-third : goal.returns-clause-third
returns-clause-third c = first_is 3 1999 3

pub returns-clause-fourth : goal.returns-clause-fourth
returns-clause-fourth c = first_is 4 1999 4
