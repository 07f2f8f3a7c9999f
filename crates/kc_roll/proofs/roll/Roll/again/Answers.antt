use Rattle.std.proofs.Common.{arith, rules}
use Rattle.kc_roll.proofs.Fronts.{copies}
use Rattle.kc_roll.proofs.roll.Roll.again.Goals as goal

pub split_seat-seat-requires : goal.split_seat-seat-requires
split_seat-seat-requires g c = let one = c.self.invariant in (search rules, omega (arith, one), copies _ _)
