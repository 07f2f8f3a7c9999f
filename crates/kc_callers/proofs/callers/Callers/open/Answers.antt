use Rattle.std.proofs.Common.{◌≡◌, ◌++◌, ◌∷◌, ℕ, length, sym, ap, subst, ◌∙◌, arith}
use Rattle.std.proofs.lemmas.Grind.{common_steps}
use Rattle.kc_callers.proofs.Homes.{homes_push, many_push, opened_at, opened_many}
use Rattle.kc_callers.specs.Homes.{AreHomesOf}
use Rattle.kc_store.specs.Views.{StoreView}
use Rattle.kc_callers.proofs.callers.Callers.open.Goals as goal

pub add-requires : goal.add-requires
add-requires c =
    let store = ap (λ (p : StoreView × ℕ). p.0) c.home.view_is ∙ c.loop-caller.invariant.home in
    let all : c.loop-caller.yielded ++ c.in-Some.caller ∷ c.next.new.self.rest.items ≡ c.args.callers.items = grind (arith, common_steps) in
    let at = opened_at c.args.store c.args.store.callers c.loop-caller.yielded c.in-Some.caller c.next.new.self.rest.items c.args.callers.items all c.requires in
    record { fits = (at.0 ∙ sym store, at.1 ∙ sym c.loop-caller.invariant.many ∙ sym c.len.ensures) }

pub loop-caller-preserved : goal.loop-caller-preserved
loop-caller-preserved c =
    let store = ap (λ (p : StoreView × ℕ). p.0) c.home.view_is ∙ c.loop-caller.invariant.home in
    let added = c.in_ok-add.ensures.added in
    let places = c.loop-caller.desk.places.items in
    record {
      all = grind (arith, common_steps);
      many = many_push places c.add.new.self.places.items added.0 c.loop-caller.yielded c.in-Some.caller added.2 c.loop-caller.invariant.many;
      homes = subst (λ hs. AreHomesOf c.args.store hs) (sym added.2) (homes_push c.args.store places added.0 c.loop-caller.invariant.homes (added.1 ∙ (λ i. (store i, c.len.ensures i))));
      home = store;
    }

pub invariant_of-result : goal.invariant_of-result
invariant_of-result c =
    let store = ap (λ (p : StoreView × ℕ). p.0) c.home-2.view_is ∙ c.loop-caller.invariant.home in
    let done : length c.loop-caller.yielded ≡ length c.args.callers.items = grind (arith, common_steps) in
    record {
      homes = subst (λ z. AreHomesOf z c.loop-caller.desk.places.items) (sym store) c.loop-caller.invariant.homes;
      all = c.loop-caller.invariant.many ∙ done ∙ ap length c.requires ∙ opened_many c.args.store 0 c.args.store.callers ∙ ap (λ (z : StoreView). z.callers) (sym store);
    }

pub returns : goal.returns
returns c = ap (λ (p : StoreView × ℕ). p.0) c.home-2.view_is ∙ c.loop-caller.invariant.home
