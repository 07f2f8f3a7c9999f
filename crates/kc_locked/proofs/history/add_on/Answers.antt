use Rattle.std.proofs.Common.{arith, refl}
use Rattle.atomic_table.specs.Table.{keeps}
use Rattle.kc_locked.proofs.history.add_on.Goals as goal

pub load-requires : goal.load-requires
load-requires g c = let t = c.requires.table.1 in (c.requires.table.0, omega arith, λ s kept count at small. (g.N.Tells.next, keeps, tt, tt, refl))
