use Rattle.std.proofs.Common.{◌≡◌, length, sym, ap, ◌∙◌, arith, rules, vec_capacity}
use Rattle.kc_callers.proofs.Homes.{at_home}
use Rattle.kc_callers.proofs.callers.Callers.close.Goals as goal

pub all_home-requires-clause-home : goal.all_home-requires-clause-home
all_home-requires-clause-home c =
    let self = c.args.self in (at_home self.store 0 self.desk.places.items c.in-Ok-close.idle.items (λ n d lt. self.homes n d lt ∙ ap (λ m. (self.store, m)) (omega arith)) c.in-Ok-close.ensures.ok).0

pub all_home-requires-clause-all : goal.all_home-requires-clause-all
all_home-requires-clause-all c =
    let self = c.args.self in (at_home self.store 0 self.desk.places.items c.in-Ok-close.idle.items (λ n d lt. self.homes n d lt ∙ ap (λ m. (self.store, m)) (omega arith)) c.in-Ok-close.ensures.ok).1 ∙ self.all

pub all_home-requires-clause-space : goal.all_home-requires-clause-space
all_home-requires-clause-space c =
    let self = c.args.self in
    let room : vec_capacity c.in-Ok.room ≡ length self.desk.places.items = search rules in
    room ∙ sym (at_home self.store 0 self.desk.places.items c.in-Ok-close.idle.items (λ n d lt. self.homes n d lt ∙ ap (λ m. (self.store, m)) (omega arith)) c.in-Ok-close.ensures.ok).1
