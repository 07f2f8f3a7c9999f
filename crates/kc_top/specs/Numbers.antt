-- The numbers with which the program exits.
use Rattle.std.specs.Prelude.{ℕ}
use Rattle.kc_top.specs.declared.status.Status.{Status}
use Rattle.kc_top.specs.declared.status.Status.TheVariants as status

abbrev pub status_number : Status → ℕ
status_number status.Done = 0
status_number status.Usage = 2
status_number (status.Script part line why) = 3
status_number status.ReadFault = 4
status_number status.WriteFault = 5
status_number status.NoMemory = 6
status_number status.TooLong = 7
status_number (status.Illegal line why) = 8
