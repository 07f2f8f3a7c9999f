use Rattle.std.proofs.Common.{arith, rules}
use Rattle.kc_holder.proofs.Lent.{gives_back}
use Rattle.kc_holder.proofs.holder.Holder.give.Goals as goal

pub swap-requires : goal.swap-requires
swap-requires g c = let one = c.self.invariant.0 in (search rules, omega (arith, one), gives_back _ _ _ _ _ c.args.value (search rules) (search rules))
