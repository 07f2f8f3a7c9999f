use Rattle.std.proofs.Common.{◌∙◌, ap, refl}
use Rattle.kc_lasting.proofs.GoingOver.{stays_on_there}
use Rattle.kc_lasting.proofs.Moving.{as_many_there, looked_up, placed_so, settled_before, settled_behind}
use Rattle.kc_store.specs.Views.{CallerView}
use Rattle.kc_lasting.proofs.crossing.cross_once.Goals as goal

pub returns-then-eras-place-clause-placed : goal.returns-then-eras-place-clause-placed
returns-then-eras-place-clause-placed g c =
    let p = looked_up c.args.shared.now.roll c.args.client.now.caller.of c.args.place.now c.renew_if_last.new.place c.look_up.new.place c.requires.placed c.renew_if_last.ensures.place.0 c.renew_if_last.ensures.place.1 c.look_up.ensures.of c.look_up.ensures.chain c.look_up.ensures.sees.0 c.look_up.ensures.era in
    placed_so c.args.shared.now.roll c.args.client.now.caller.of c.look_again.new.self.caller.of c.look_up.new.place c.look_up.new.place p refl refl c.look_again.ensures.learns.remembers.of

pub settle-requires-clause-at : goal.settle-requires-clause-at
settle-requires-clause-at g c = (looked_up c.args.shared.now.roll c.args.client.now.caller.of c.args.place.now c.renew_if_last.new.place c.look_up.new.place c.requires.placed c.renew_if_last.ensures.place.0 c.renew_if_last.ensures.place.1 c.look_up.ensures.of c.look_up.ensures.chain c.look_up.ensures.sees.0 c.look_up.ensures.era).at

pub returns-then-go_over-clause-crosses : goal.returns-then-go_over-clause-crosses
returns-then-go_over-clause-crosses g c =
    let p = looked_up c.args.shared.now.roll c.args.client.now.caller.of c.args.place.now c.renew_if_last.new.place c.look_up.new.place c.requires.placed c.renew_if_last.ensures.place.0 c.renew_if_last.ensures.place.1 c.look_up.ensures.of c.look_up.ensures.chain c.look_up.ensures.sees.0 c.look_up.ensures.era in
    let many = as_many_there c.args.shared.now.roll c.args.client.now.caller.of c.go_over.new.client.caller.of c.look_up.new.place c.go_over.new.place p c.go_over.ensures.page (c.go_over.ensures.at c.if-go_over.true).0 in
    settled_before c.look_up.new.place.page c.go_over.new.place.page c.look_up.new.place.era c.args.place.now.era c.args.client.now.caller c.args.client.now.seen.value c.settle.new.client.caller c.settle.new.client.seen.value c.go_over.new.client.caller c.go_over.new.client.seen.value c.args.footprint.now c.go_over.ensures.page (c.look_up.ensures.era ∙ c.renew_if_last.ensures.place.1) c.in-Before.ensures.settled many (c.go_over.ensures.new c.if-go_over.true)

pub returns-then-go_over-2-clause-crosses : goal.returns-then-go_over-2-clause-crosses
returns-then-go_over-2-clause-crosses g c =
    let p = looked_up c.args.shared.now.roll c.args.client.now.caller.of c.args.place.now c.renew_if_last.new.place c.look_up.new.place c.requires.placed c.renew_if_last.ensures.place.0 c.renew_if_last.ensures.place.1 c.look_up.ensures.of c.look_up.ensures.chain c.look_up.ensures.sees.0 c.look_up.ensures.era in
    let many = as_many_there c.args.shared.now.roll c.args.client.now.caller.of c.go_over-in-Behind.new.client.caller.of c.look_up.new.place c.go_over-in-Behind.new.place p c.go_over-in-Behind.ensures.page (c.go_over-in-Behind.ensures.at c.if-go_over-2.true).0 in
    settled_behind c.look_up.new.place.page c.go_over-in-Behind.new.place.page c.look_up.new.place.era c.args.place.now.era c.args.client.now.caller c.args.client.now.seen.value c.settle.new.client.caller c.settle.new.client.seen.value c.go_over-in-Behind.new.client.caller c.go_over-in-Behind.new.client.seen.value c.args.footprint.now c.go_over-in-Behind.ensures.page (c.look_up.ensures.era ∙ c.renew_if_last.ensures.place.1) c.in-Behind.ensures.settled many (c.go_over-in-Behind.ensures.new c.if-go_over-2.true)

pub returns-else-go_over-clause-placed : goal.returns-else-go_over-clause-placed
returns-else-go_over-clause-placed g c =
    let p = looked_up c.args.shared.now.roll c.args.client.now.caller.of c.args.place.now c.renew_if_last.new.place c.look_up.new.place c.requires.placed c.renew_if_last.ensures.place.0 c.renew_if_last.ensures.place.1 c.look_up.ensures.of c.look_up.ensures.chain c.look_up.ensures.sees.0 c.look_up.ensures.era in
    let s = c.go_over.ensures.stays c.if-go_over.false in
    placed_so c.args.shared.now.roll c.args.client.now.caller.of c.go_over.new.client.caller.of c.look_up.new.place c.go_over.new.place p c.go_over.ensures.page s.2 (ap (λ (x : CallerView). x.of) s.0 ∙ c.settle.ensures.of)

pub returns-else-go_over-2-clause-placed : goal.returns-else-go_over-2-clause-placed
returns-else-go_over-2-clause-placed g c =
    let p = looked_up c.args.shared.now.roll c.args.client.now.caller.of c.args.place.now c.renew_if_last.new.place c.look_up.new.place c.requires.placed c.renew_if_last.ensures.place.0 c.renew_if_last.ensures.place.1 c.look_up.ensures.of c.look_up.ensures.chain c.look_up.ensures.sees.0 c.look_up.ensures.era in
    let s = c.go_over-in-Behind.ensures.stays c.if-go_over-2.false in
    placed_so c.args.shared.now.roll c.args.client.now.caller.of c.go_over-in-Behind.new.client.caller.of c.look_up.new.place c.go_over-in-Behind.new.place p c.go_over-in-Behind.ensures.page s.2 (ap (λ (x : CallerView). x.of) s.0 ∙ c.settle.ensures.of)

pub returns-in-Open-clause-placed : goal.returns-in-Open-clause-placed
returns-in-Open-clause-placed g c =
    let p = looked_up c.args.shared.now.roll c.args.client.now.caller.of c.args.place.now c.renew_if_last.new.place c.look_up.new.place c.requires.placed c.renew_if_last.ensures.place.0 c.renew_if_last.ensures.place.1 c.look_up.ensures.of c.look_up.ensures.chain c.look_up.ensures.sees.0 c.look_up.ensures.era in
    placed_so c.args.shared.now.roll c.args.client.now.caller.of c.settle.new.client.caller.of c.look_up.new.place c.look_up.new.place p refl refl c.settle.ensures.of

pub returns-then-eras-place-clause-crosses : goal.returns-then-eras-place-clause-crosses
returns-then-eras-place-clause-crosses g c = stays_on_there c.args.client.now.caller c.look_again.new.self.caller c.look_again.new.self.seen.value c.look_again.ensures.seen c.look_again.ensures.learns
