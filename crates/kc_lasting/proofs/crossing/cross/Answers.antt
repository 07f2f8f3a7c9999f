use Rattle.std.proofs.Common.{◌≡◌, ◌∙◌, None, rules, refl, subst}
use Rattle.std.specs.Prelude.{Option}
use Rattle.kc_lasting.proofs.Moving.{crosses_from, places_on, still_first, still_on}
use Rattle.kc_lasting.specs.Eras.{IsEnded}
use Rattle.kc_lasting.specs.Told.{CrossesOnce}
use Rattle.kc_lasting.specs.declared.crossing.Crossing.{Crossing}
use Rattle.kc_lasting.proofs.crossing.cross.Goals as goal

pub tries-init : goal.tries-init
tries-init g c = (tt, tt, (still_first c.args.shared.now.roll c.args.client.now.caller c.args.client.now.seen.value c.args.place.now c.requires.placed, refl))

pub returns-in-Some-cross_alone-clause-crosses : goal.returns-in-Some-cross_alone-clause-crosses
returns-in-Some-cross_alone-clause-crosses g c = (crosses_from c.args.shared.now.roll c.args.client.now.caller c.args.client.now.seen.value c.args.place.now c.tries.client.caller c.tries.client.seen.value c.tries.place _ c.args.footprint.now c.cross_alone.new.client.caller c.cross_alone.new.client.seen.value c.cross_alone.new.place c.tries.invariant.2.0 c.in-Some-cross_alone.ensures.crosses).0

pub returns-in-Some-cross_alone-clause-moves : goal.returns-in-Some-cross_alone-clause-moves
returns-in-Some-cross_alone-clause-moves g c = places_on c.args.place.now c.tries.place c.cross_alone.new.place c.tries.invariant.2.0.moves c.cross_alone.ensures.moves

pub tries-preserved : goal.tries-preserved
tries-preserved g c =
    let d = c.tries.client in
    let e = c.cross_alone.new.client in
    let none : c.cross_alone.result ≡ None = search rules in
    let stays = subst (λ (o : Option Crossing). CrossesOnce (IsEnded c.cross_alone.new.place.page.seen c.tries.place.era) o d.caller d.seen.value c.args.footprint.now e.caller e.seen.value) none c.cross_alone.ensures.crosses in
    (tt, tt, (still_on c.args.shared.now.roll c.args.client.now.caller c.args.client.now.seen.value c.args.place.now d.caller d.seen.value c.tries.place e.caller e.seen.value c.cross_alone.new.place c.tries.invariant.2.0 stays c.cross_alone.ensures.placed c.cross_alone.ensures.moves (c.cross_alone.ensures.stays none), c.cross_alone.ensures.size ∙ c.tries.invariant.2.1))
