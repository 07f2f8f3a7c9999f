use Rattle.std.proofs.Common.{◌≡◌, ◌∙◌, ℕ, List, ◌+◌, [], ◌∷◌, ◌++◌, ap, arith, length, rules, sym}
use Rattle.std.proofs.lemmas.List.{length-append}
use Rattle.std.specs.Prelude.{All}
use Rattle.std.proofs.lemmas.List.Elements.{All-head, All-push, All-same, All-tail}
use Rattle.kc_lasting.proofs.Dealing.{deal_one}
use Rattle.kc_lasting.specs.Ends.{IsNewCaller}
use Rattle.kc_lasting.specs.Opening.{IsFirstClient, callers_of}
use Rattle.kc_lasting.specs.declared.client.Fresh.{Fresh}
use Rattle.kc_store.specs.Views.{CallerView}
use Rattle.kc_lasting.proofs.renewing.deal.Goals as goal

pub of-requires-clause-new : goal.of-requires-clause-new
of-requires-clause-new c =
    let parts : c.loop-caller.caller-iterator.rest.items ≡ c.in-Some.caller ∷ c.next.new.self.rest.items = search rules in
    All-head IsNewCaller _ _ (All-same IsNewCaller _ _ (sym parts) c.loop-caller.invariant.new)

pub loop-caller-preserved : goal.loop-caller-preserved
loop-caller-preserved c =
    let z = c.args.store in
    let inv = c.loop-caller.invariant in
    let parts : c.loop-caller.caller-iterator.rest.items ≡ c.in-Some.caller ∷ c.next.new.self.rest.items = search rules in
    let rest : All (λ (x : CallerView). x.of ≡ z) (c.in-Some.caller ∷ c.next.new.self.rest.items) = All-same (λ (x : CallerView). x.of ≡ z) _ _ (sym parts) inv.rest_are in
    let new : All IsNewCaller (c.in-Some.caller ∷ c.next.new.self.rest.items) = All-same IsNewCaller _ _ (sym parts) inv.new in
    let items : c.push.new.self.items ≡ c.loop-caller.clients.items ++ c.of.result ∷ [] = search rules in
    let one : c.of.result.client.caller.of ≡ z = ap (λ (x : CallerView). x.of) c.of.ensures.caller ∙ All-head (λ (x : CallerView). x.of ≡ z) _ _ rest in
    let first : IsFirstClient z c.of.result = record { of = one; locations = c.requires.size ∙ ap (λ (n : ℕ). n + 1) (sym c.of.ensures.size) } in
    let n = ap length items in let m = length-append c.loop-caller.clients.items (c.of.result ∷ []) in let k = ap length parts in let all = inv.count in
    record {
      era = inv.era;
      count = omega (arith, n, m, k, all);
      given_are = All-same (IsFirstClient z) _ _ items (All-push (IsFirstClient z) c.loop-caller.clients.items c.of.result inv.given_are first);
      rest_are = All-tail (λ (x : CallerView). x.of ≡ z) c.in-Some.caller c.next.new.self.rest.items rest;
      new = All-tail IsNewCaller c.in-Some.caller c.next.new.self.rest.items new;
      dealt = ap (λ (xs : List Fresh). callers_of xs ++ c.next.new.self.rest.items) items ∙ deal_one c.loop-caller.clients.items c.of.result c.next.new.self.rest.items
          ∙ ap (λ (x : CallerView). callers_of c.loop-caller.clients.items ++ x ∷ c.next.new.self.rest.items) c.of.ensures.caller ∙ ap (λ (xs : List CallerView). callers_of c.loop-caller.clients.items ++ xs) (sym parts) ∙ inv.dealt;
    }
