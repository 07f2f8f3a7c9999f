use Rattle.std.proofs.Common.{arith, rules}
use Rattle.kc_roll.proofs.Fronts.{grows}
use Rattle.kc_roll.proofs.roll.Roll.write.Goals as goal

pub compare_exchange-requires : goal.compare_exchange-requires
compare_exchange-requires g c = let one = c.self.invariant in (search rules, omega (arith, one), grows _ _ _ _ _ (search rules))
