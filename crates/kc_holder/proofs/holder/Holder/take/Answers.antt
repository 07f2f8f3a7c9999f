use Rattle.std.proofs.Common.{arith, rules}
use Rattle.kc_holder.proofs.Lent.{enters, takes_out}
use Rattle.kc_holder.proofs.holder.Holder.take.Goals as goal

pub load_new_seat-requires : goal.load_new_seat-requires
load_new_seat-requires g c = let one = c.self.invariant.0 in (omega (arith, one), enters _ _ _)

pub swap-requires : goal.swap-requires
swap-requires g c = let one = c.self.invariant.0 in (search rules, omega (arith, one), takes_out _ _ _ _ _ (λ _. 2) (λ _. omega arith) (search rules))
