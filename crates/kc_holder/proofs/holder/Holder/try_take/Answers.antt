use Rattle.std.proofs.Common.{arith, rules}
use Rattle.kc_holder.proofs.Lent.{above, enters, takes_out}
use Rattle.kc_holder.proofs.holder.Holder.try_take.Goals as goal

pub load_new_seat-requires : goal.load_new_seat-requires
load_new_seat-requires g c = let one = c.self.invariant.0 in (omega (arith, one), enters _ _ _)

pub compare_exchange-requires : goal.compare_exchange-requires
compare_exchange-requires g c = let one = c.self.invariant.0 in (search rules, omega (arith, one), takes_out _ _ _ _ _ _ above (search rules))
