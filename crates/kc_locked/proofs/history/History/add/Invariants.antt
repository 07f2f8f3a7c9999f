use Rattle.std.proofs.Common.{◌++◌, ◌∷◌, []}
use Rattle.kc_history.specs.Callers.{record_entry}
use Rattle.kc_locked.specs.History.{told}
use Rattle.kc_locked.proofs.history.History.add.Given as goal

abbrev pub ghosts-add_on : goal.ghosts-add_on
ghosts-add_on a = record { next = told a.seat.now.me.0.opening (a.seat.now.me.0.entries ++ record_entry a.caller a.number a.footprint.now ∷ []) }
