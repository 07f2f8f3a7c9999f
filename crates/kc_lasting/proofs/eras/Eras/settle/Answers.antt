use Rattle.std.proofs.Common.{◌≡◌, ◌∙◌, rules, subst}
use Rattle.kc_lasting.proofs.Chains.{ends_again, is_ended, store_is}
use Rattle.kc_lasting.proofs.GoingOver.{stays_first}
use Rattle.kc_lasting.proofs.Learning.{never_open, settled_so}
use Rattle.kc_lasting.specs.Ends.{IsEraEnd}
use Rattle.kc_lasting.specs.Eras.{IsEnded}
use Rattle.kc_store.specs.Views.{StoreView}
use Rattle.kc_lasting.proofs.eras.Eras.settle.Goals as goal

pub returns-in_default-clause-settled : goal.returns-in_default-clause-settled
returns-in_default-clause-settled c = stays_first c.args.client.now.caller c.args.client.now.seen.value

pub returns-then-end-place-clause-settled : goal.returns-then-end-place-clause-settled
returns-then-end-place-clause-settled c = stays_first c.args.client.now.caller c.args.client.now.seen.value

pub learn_end-side-requires : goal.learn_end-side-requires
learn_end-side-requires c =
    let m = c.in-Some.ensures.end in
    let era : c.in-Some.end.era ≡ c.args.place.now.era = search rules in
    record { of = m.end.of ∙ store_is c.args.self.now.page.seen c.args.place.now.page.seen c.in-Some.end c.args.place.now.era c.args.client.now.caller.of m era c.requires.sees c.requires.at }

pub put_end-requires-clause-end : goal.put_end-requires-clause-end
put_end-requires-clause-end c =
    let m = c.in-Some.ensures.end in
    let era : c.in-Some.end.era ≡ c.args.place.now.era = search rules in
    let is = store_is c.args.self.now.page.seen c.args.place.now.page.seen c.in-Some.end c.args.place.now.era c.args.client.now.caller.of m era c.requires.sees c.requires.at in
    let there = ends_again c.args.self.now.page.seen c.in-Some.end c.learn_end-side.result.1 c.args.client.now.caller.of m c.learn_end-side.ensures.number is c.learn_end-side.ensures.end in
    search (rules, there)

pub returns-clause-settled : goal.returns-clause-settled
returns-clause-settled c =
    let m = c.in-Some.ensures.end in
    let era : c.in-Some.end.era ≡ c.args.place.now.era = search rules in
    let is = store_is c.args.self.now.page.seen c.args.place.now.page.seen c.in-Some.end c.args.place.now.era c.args.client.now.caller.of m era c.requires.sees c.requires.at in
    settled_so (IsEnded c.args.place.now.page.seen c.args.place.now.era) m.note.known (is_ended c.args.self.now.page.seen c.args.place.now.page.seen c.in-Some.end c.args.place.now.era m era c.requires.sees) c.learn_end-side.result.0 c.args.client.now.caller c.args.client.now.seen.value c.args.footprint.now c.learn_end-side.new.self.caller c.learn_end-side.new.self.seen.value
    (c.learn_end-side.ensures.settled m.note.known (subst (λ (w : StoreView). IsEraEnd w c.in-Some.end.note m.note.known c.in-Some.end.versions.items) is m.end))

pub returns-clause-closed : goal.returns-clause-closed
returns-clause-closed c =
    let m = c.in-Some.ensures.end in
    let era : c.in-Some.end.era ≡ c.args.place.now.era = search rules in
    let is = store_is c.args.self.now.page.seen c.args.place.now.page.seen c.in-Some.end c.args.place.now.era c.args.client.now.caller.of m era c.requires.sees c.requires.at in
    never_open m.note.known c.learn_end-side.result.0 c.args.client.now.caller c.args.client.now.seen.value c.args.footprint.now c.learn_end-side.new.self.caller c.learn_end-side.new.self.seen.value
    (c.learn_end-side.ensures.settled m.note.known (subst (λ (w : StoreView). IsEraEnd w c.in-Some.end.note m.note.known c.in-Some.end.versions.items) is m.end))
