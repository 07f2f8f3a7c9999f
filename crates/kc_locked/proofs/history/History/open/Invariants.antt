use Rattle.std.proofs.Common.{[]}
use Rattle.kc_locked.specs.History.{told}
use Rattle.kc_locked.proofs.history.History.open.Given as goal

abbrev pub ghosts-open_on : goal.ghosts-open_on
ghosts-open_on a = record { next = told a.values.now [] }
