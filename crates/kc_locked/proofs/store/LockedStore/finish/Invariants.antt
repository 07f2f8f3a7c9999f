use Rattle.kc_locked.proofs.store.LockedStore.finish.Given as goal

abbrev pub ghosts-show : goal.ghosts-show
ghosts-show a = record { origin = a.memory.now.key }
