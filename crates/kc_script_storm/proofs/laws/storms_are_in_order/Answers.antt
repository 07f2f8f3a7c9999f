use Rattle.std.proofs.Common.{refl}
use Rattle.kc_script_storm.proofs.Lying.{storm_lies, storm_sized, thread_length, thread_on}
use Rattle.kc_script_storm.proofs.laws.storms_are_in_order.Goals as goal

pub returns-clause-lies : goal.returns-clause-lies
returns-clause-lies c = storm_lies

pub returns-clause-sized : goal.returns-clause-sized
returns-clause-sized c = storm_sized

pub returns-clause-four : goal.returns-clause-four
returns-clause-four c n = refl

pub returns-clause-commands : goal.returns-clause-commands
returns-clause-commands c = thread_length

pub returns-clause-on : goal.returns-clause-on
returns-clause-on c = thread_on
