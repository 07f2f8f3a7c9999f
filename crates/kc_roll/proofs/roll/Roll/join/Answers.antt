use Rattle.std.proofs.Common.{arith, rules, ap}
use Rattle.kc_roll.proofs.Fronts.{joins, joined_is, shows}
use Rattle.kc_roll.proofs.roll.Roll.join.Goals as goal

pub join_seat-requires : goal.join_seat-requires
join_seat-requires g c = let one = c.self.invariant in (search rules, search rules, search rules, omega (arith, one), joins _ _ _ _)

pub load-requires : goal.load-requires
load-requires g c = let one = c.self.invariant in (search rules, omega (arith, one), shows _ _ _)

pub returns-clause-either : goal.returns-clause-either
returns-clause-either g c =
    let l = c.load.ensures.2 in
    joined_is c.page.inside.seat.me.0 c.other.inside.seat.me.0 c.join_seat.new.seat.me.0 c.load.new.seat.me.0 (ap (λ m. m.0) c.join_seat.ensures.2) (ap (λ m. m.0.seen) l.0) l.1 l.2 _ _ (ap (λ v. v.seen) c.page.view_is) (ap (λ v. v.seen) c.other.view_is)
