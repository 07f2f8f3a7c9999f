use Rattle.kc_history.specs.Callers.{record_entry}
use Rattle.kc_locked.specs.Locked.{entered_by}
use Rattle.kc_locked.proofs.store.LockedStore.attempt.Given as goal

abbrev pub ghosts-take : goal.ghosts-take
ghosts-take g a = record { origin = a.memory.now.key }

abbrev pub ghosts-give : goal.ghosts-give
ghosts-give g a = record { made = entered_by a._entered (record_entry a.caller a.number a._footprint.now) }
