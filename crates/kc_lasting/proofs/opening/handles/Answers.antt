use Rattle.std.proofs.Common.{◌≡◌, ◌∙◌, ◌+◌, ◌++◌, ◌∷◌, [], ap, arith, length, rules, subst, sym}
use Rattle.std.proofs.lemmas.List.{length-append}
use Rattle.std.specs.Prelude.{All}
use Rattle.std.proofs.lemmas.List.Elements.{All-head, All-push, All-same, All-tail}
use Rattle.kc_lasting.specs.Eras.{first_line}
use Rattle.kc_lasting.specs.Opening.{IsFirst, IsFirstClient}
use Rattle.kc_store.specs.Views.{StoreView}
use Rattle.kc_lasting.proofs.opening.handles.Goals as goal

pub handle_of-requires-clause-lines : goal.handle_of-requires-clause-lines
handle_of-requires-clause-lines c =
    let z = c.args.eras.keeper.caller.of in
    let inv = c.loop-fresh.invariant in
    let parts : c.loop-fresh.fresh-iterator.rest.items ≡ c.in-Some.fresh ∷ c.next.new.self.rest.items = search rules in
    let one = All-head (IsFirstClient z) _ _ (All-same (IsFirstClient z) _ _ (sym parts) inv.rest) in
    subst (λ (y : StoreView). c.again-page.result.seen ≡ first_line y ∷ []) (sym one.of) (ap (λ p. p.seen) c.again-page.ensures.again ∙ inv.seen)

pub loop-fresh-preserved : goal.loop-fresh-preserved
loop-fresh-preserved c =
    let z = c.args.eras.keeper.caller.of in
    let h = c.handle_of.result in
    let inv = c.loop-fresh.invariant in
    let parts : c.loop-fresh.fresh-iterator.rest.items ≡ c.in-Some.fresh ∷ c.next.new.self.rest.items = search rules in
    let rest : All (IsFirstClient z) (c.in-Some.fresh ∷ c.next.new.self.rest.items) = All-same (IsFirstClient z) _ _ (sym parts) inv.rest in
    let one = All-head (IsFirstClient z) _ _ rest in
    let items : c.push.new.self.items ≡ c.loop-fresh.given.items ++ h ∷ [] = search rules in
    let client = c.handle_of.ensures.caller in
    let first : IsFirst c.args.roll z h = record {
      of = ap (λ x. x.caller.of) client ∙ one.of;
      own = ap (λ x. x.caller.own) client ∙ c.in-Some.fresh.none;
      locations = one.locations ∙ ap (λ x. x.locations + 1) (sym client);
      era = c.handle_of.ensures.place.0;
      lines = ap (λ p. p.seen) (c.handle_of.ensures.place.1 ∙ c.again-page.ensures.again) ∙ inv.seen;
      roll_is = search rules;
    } in
    let n = ap length items in let m = length-append c.loop-fresh.given.items (h ∷ []) in let k = ap length parts in let all = inv.count in
    record {
      shared = inv.shared;
      of = ap (λ p. p.of) c.again-page.ensures.page ∙ inv.of;
      seen = ap (λ p. p.seen) c.again-page.ensures.page ∙ inv.seen;
      given = All-same (IsFirst c.args.roll z) _ _ items (All-push (IsFirst c.args.roll z) c.loop-fresh.given.items h inv.given first);
      rest = All-tail (IsFirstClient z) c.in-Some.fresh c.next.new.self.rest.items rest;
      count = omega (arith, n, m, k, all);
    }
