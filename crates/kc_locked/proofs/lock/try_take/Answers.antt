use Rattle.std.proofs.Common.{arith}
use Rattle.kc_locked.proofs.Steps.{above, takes_lock}
use Rattle.kc_locked.proofs.lock.try_take.Goals as goal

pub compare_exchange-requires : goal.compare_exchange-requires
compare_exchange-requires g c = let t = c.requires.table.1 in (c.requires.table.0, omega arith, rw c.requires.key (takes_lock _ _ _ _ _ (above c.args.word c.requires.word)))
