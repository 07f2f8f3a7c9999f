use Rattle.std.proofs.Common.{arith}
use Rattle.kc_locked.proofs.Steps.{notes}
use Rattle.kc_locked.proofs.lock.note_wait.Goals as goal

pub store-requires : goal.store-requires
store-requires c = let t = c.requires.table.1 in (c.requires.table.0, omega arith, notes _ _ _ _ _)
