use Rattle.std.proofs.Common.{◌≡◌, [], ◌∷◌, ◌++◌, Some, rules, sym}
use Rattle.std.specs.Prelude.{All}
use Rattle.std.proofs.lemmas.List.Elements.{All-head, All-push, All-same, All-tail}
use Rattle.kc_lasting.specs.Kept.{MayBeFresh}
use Rattle.kc_lasting.specs.declared.client.Fresh.{Fresh}
use Rattle.kc_lasting.proofs.renewing.some.Goals as goal

pub loop-client-preserved : goal.loop-client-preserved
loop-client-preserved c =
    let z = c.args._keeper.now.caller.of in
    let inv = c.loop-client.invariant in
    let parts : c.loop-client.client-iterator.rest.items ≡ c.in-Some.client ∷ c.next.new.self.rest.items = search rules in
    let rest : All (λ (x : Fresh). x.client.caller.of ≡ z) (c.in-Some.client ∷ c.next.new.self.rest.items) = All-same (λ (x : Fresh). x.client.caller.of ≡ z) _ _ (sym parts) inv.rest in
    let items : c.push.new.self.items ≡ c.loop-client.all.items ++ Some c.in-Some.client ∷ [] = search rules in
    record {
      given = All-same (MayBeFresh z) _ _ items (All-push (MayBeFresh z) c.loop-client.all.items (Some c.in-Some.client) inv.given (All-head (λ (x : Fresh). x.client.caller.of ≡ z) _ _ rest));
      rest = All-tail (λ (x : Fresh). x.client.caller.of ≡ z) c.in-Some.client c.next.new.self.rest.items rest;
    }
