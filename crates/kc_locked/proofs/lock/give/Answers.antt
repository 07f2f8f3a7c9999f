use Rattle.std.proofs.Common.{arith}
use Rattle.kc_locked.proofs.Steps.{gives_lock}
use Rattle.kc_locked.proofs.lock.give.Goals as goal

pub swap-requires : goal.swap-requires
swap-requires g c =
    let t = c.requires.table.1 in
    (c.requires.table.0, omega arith, gives_lock _ _ _ _ _ c.requires.holds)
