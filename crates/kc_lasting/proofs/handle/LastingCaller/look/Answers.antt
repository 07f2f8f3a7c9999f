use Rattle.std.specs.Arc.{arc_value}
use Rattle.std.proofs.Common.{ap}
use Rattle.kc_lasting.proofs.Telling.{looks_so, passes_behind}
use Rattle.kc_lasting.specs.Told.{HandleView, standing_of}
use Rattle.kc_lasting.specs.declared.shared.Place.{Place}
use Rattle.kc_lasting.proofs.handle.LastingCaller.look.Goals as goal

pub returns-then-goes_on-clause-looks : goal.returns-then-goes_on-clause-looks
returns-then-goes_on-clause-looks g c =
    let r = c.read-seen in
    let on = c.goes_on.ensures.on c.if-goes_on.true in
    let d : HandleView = record { roll = (arc_value c.args.self.now.shared).roll; era = c.goes_on.new.place.era; lines = c.goes_on.new.place.page.seen; caller = c.goes_on.new.client.caller; confirmed = c.goes_on.new.client.seen.value } in
    looks_so (standing_of c.args.self.now) r.new.self.caller d r.ensures.learns on.0 on.1 (ap (λ (p : Place). p.era) on.2) c.args.at.0 r.result r.ensures.looks

pub returns-else-goes_on-clause-looks : goal.returns-else-goes_on-clause-looks
returns-else-goes_on-clause-looks g c =
    let r = c.read-seen in
    let d : HandleView = record { roll = (arc_value c.args.self.now.shared).roll; era = c.goes_on.new.place.era; lines = c.goes_on.new.place.page.seen; caller = c.goes_on.new.client.caller; confirmed = c.goes_on.new.client.seen.value } in
    passes_behind (standing_of c.args.self.now) r.new.self.caller d r.new.self.seen.value r.ensures.seen r.ensures.learns (c.goes_on.ensures.over c.if-goes_on.false)
