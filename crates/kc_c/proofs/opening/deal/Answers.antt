use Rattle.std.proofs.Common.{◌≡◌, ◌+◌, ◌<◌, [], ◌∷◌, ◌++◌, ap, arith, length, rules, subst, sym, ◌∙◌}
use Rattle.std.proofs.lemmas.List.{append_assoc, length-append, length-set}
use Rattle.std.specs.Arc.{arc_value}
use Rattle.kc_c.proofs.Opened.{caller_at, opened_more}
use Rattle.kc_c.specs.Clients.{IsNew}
use Rattle.kc_store.specs.Views.{opened_caller}
use Rattle.kc_c.proofs.opening.deal.Goals as goal

pub client_of-client-requires-clause-of : goal.client_of-client-requires-clause-of
client_of-client-requires-clause-of c =
    let all : c.loop-caller.yielded ++ c.in-Some.caller ∷ c.next.new.self.rest.items ≡ c.args.callers.items = search rules in
    let share : arc_value c.in_ok-share.share ≡ arc_value c.args.store.now = search rules in
    ap (λ v. v.of) (caller_at _ 0 _ c.loop-caller.yielded c.in-Some.caller _ (all ∙ c.requires.callers)) ∙ sym share

pub client_of-client-requires-clause-number : goal.client_of-client-requires-clause-number
client_of-client-requires-clause-number c =
    let all : c.loop-caller.yielded ++ c.in-Some.caller ∷ c.next.new.self.rest.items ≡ c.args.callers.items = search rules in
    let number : 0 + length c.loop-caller.yielded ≡ c.loop-caller.number = omega (arith, c.loop-caller.invariant.number) in
    ap (λ v. v.number) (caller_at _ 0 _ c.loop-caller.yielded c.in-Some.caller _ (all ∙ c.requires.callers)) ∙ number

pub loop-caller-preserved : goal.loop-caller-preserved
loop-caller-preserved c =
    let all : c.loop-caller.yielded ++ c.in-Some.caller ∷ c.next.new.self.rest.items ≡ c.args.callers.items = search rules in
    let share : arc_value c.in_ok-share.share ≡ arc_value c.args.store.now = search rules in
    let more = length-append c.loop-caller.yielded (c.in-Some.caller ∷ []) in
    let lengths = length-append c.loop-caller.yielded (c.in-Some.caller ∷ c.next.new.self.rest.items) in
    let within : c.loop-caller.number < length c.loop-caller.handles = omega (arith, ap length all, lengths, c.requires.count, c.loop-caller.invariant.number, c.loop-caller.invariant.count) in
    let number : 0 + length c.loop-caller.yielded ≡ 0 + c.loop-caller.number = omega (arith, c.loop-caller.invariant.number) in
    let at : c.in-Some.caller ≡ opened_caller (arc_value c.args.store.now) (0 + c.loop-caller.number) = caller_at _ 0 _ c.loop-caller.yielded c.in-Some.caller _ (all ∙ c.requires.callers) ∙ ap (λ n. opened_caller (arc_value c.args.store.now) n) number in
    let is : c.client_of-client.result ≡ c.put.new.self.value = search rules in
    let made : IsNew (arc_value c.args.store.now) c.in-Some.caller c.client_of-client.result = subst (λ z. IsNew z c.in-Some.caller c.client_of-client.result) share c.client_of-client.ensures in
    let new = subst (λ x. IsNew (arc_value c.args.store.now) (opened_caller (arc_value c.args.store.now) (0 + c.loop-caller.number)) x) is (subst (λ v. IsNew (arc_value c.args.store.now) v c.client_of-client.result) at made) in
    record {
      all = append_assoc c.loop-caller.yielded (c.in-Some.caller ∷ []) c.next.new.self.rest.items ∙ all;
      number = omega (arith, more, c.loop-caller.invariant.number);
      count = length-set c.loop-caller.handles c.loop-caller.number c.put.new.self ∙ c.loop-caller.invariant.count;
      opened = opened_more _ 0 c.loop-caller.number c.put.new.self c.loop-caller.handles within c.loop-caller.invariant.opened (c.put.ensures.held, new);
    }
