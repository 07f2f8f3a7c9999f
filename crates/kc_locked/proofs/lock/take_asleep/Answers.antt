use Rattle.std.proofs.Common.{arith, ◌∙◌}
use Rattle.kc_locked.proofs.Steps.{takes_lock}
use Rattle.kc_locked.proofs.lock.take_asleep.Goals as goal

pub swap-requires : goal.swap-requires
swap-requires g c = let t = c.requires.table.1 in (c.loop.invariant.2 ∙ c.requires.table.0, omega arith, rw c.requires.key (takes_lock _ _ _ _ (λ _. 2) (λ _. omega arith)))
