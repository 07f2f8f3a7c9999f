use Rattle.std.proofs.Common.{◌≡◌, ◌++◌, ◌∷◌, length, subst, ◌∙◌, arith, rules}
use Rattle.std.proofs.lemmas.Grind.{common_steps}
use Rattle.kc_callers.proofs.Homes.{all_back, is_home, stand_push}
use Rattle.kc_callers.proofs.closed.all_home.Goals as goal

pub loop-one-preserved : goal.loop-one-preserved
loop-one-preserved c =
    let z = c.args.store.now in
    let one = c.in_ok-caller in
    let all : c.loop-one.yielded ++ c.in-Some.one ∷ c.next.new.self.rest.items ≡ c.args.idle.items = grind (arith, common_steps) in
    let home = is_home z 0 c.loop-one.yielded one.field-0 c.next.new.self.rest.items c.args.idle.items c.requires.home (subst (λ o. c.loop-one.yielded ++ o ∷ c.next.new.self.rest.items ≡ c.args.idle.items) one.was all) in
    let place = home.1 in
    let many = c.loop-one.invariant.many in
    record {
      all = grind (arith, common_steps);
      space = search rules;
      many = grind (arith, common_steps);
      stand = rw c.push_reserved.ensures.items (stand_push z 0 c.loop-one.callers.items one.field-0.caller c.loop-one.invariant.stand home.0 (omega (arith, place, many)));
    }

pub returns : goal.returns
returns c =
    let done : length c.loop-one.yielded ≡ length c.args.idle.items = grind (arith, common_steps) in
    all_back c.args.store.now c.loop-one.callers.items c.loop-one.invariant.stand (c.loop-one.invariant.many ∙ done ∙ c.requires.all)
