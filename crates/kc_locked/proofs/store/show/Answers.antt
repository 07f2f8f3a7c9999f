use Rattle.std.proofs.Common.{arith}
use Rattle.kc_locked.proofs.Ends.{ends}
use Rattle.kc_locked.proofs.store.show.Goals as goal

pub load-requires : goal.load-requires
load-requires g c = let t = c.requires.table.1 in (c.requires.table.0, omega arith, rw c.requires.key (ends _ _ _ _))
