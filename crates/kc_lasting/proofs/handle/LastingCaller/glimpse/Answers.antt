use Rattle.std.specs.Arc.{arc_value}
use Rattle.std.proofs.Common.{ap}
use Rattle.kc_lasting.proofs.Telling.{glimpses_so, passes_behind}
use Rattle.kc_lasting.specs.Told.{HandleView, standing_of}
use Rattle.kc_lasting.specs.declared.shared.Place.{Place}
use Rattle.kc_xt.specs.Meaning.{limited}
use Rattle.kc_lasting.proofs.handle.LastingCaller.glimpse.Goals as goal

pub returns-then-goes_on-clause-glimpsed : goal.returns-then-goes_on-clause-glimpsed
returns-then-goes_on-clause-glimpsed g c =
    let r = c.glimpse-glimpse in
    let on = c.goes_on.ensures.on c.if-goes_on.true in
    let d : HandleView = record { roll = (arc_value c.args.self.now.shared).roll; era = c.goes_on.new.place.era; lines = c.goes_on.new.place.page.seen; caller = c.goes_on.new.client.caller; confirmed = c.goes_on.new.client.seen.value } in
    glimpses_so (standing_of c.args.self.now) r.new.self.caller d r.ensures.learns on.0 on.1 (ap (λ (p : Place). p.era) on.2) (limited (g.T.Transact.most c.args.transaction.now) (g.T.Transact.meaning c.args.transaction.now)) r.result r.new.footprint r.ensures.glimpsed r.ensures.vain

pub returns-else-goes_on-clause-glimpsed : goal.returns-else-goes_on-clause-glimpsed
returns-else-goes_on-clause-glimpsed g c =
    let r = c.glimpse-glimpse in
    let d : HandleView = record { roll = (arc_value c.args.self.now.shared).roll; era = c.goes_on.new.place.era; lines = c.goes_on.new.place.page.seen; caller = c.goes_on.new.client.caller; confirmed = c.goes_on.new.client.seen.value } in
    passes_behind (standing_of c.args.self.now) r.new.self.caller d r.new.self.seen.value r.ensures.seen r.ensures.learns (c.goes_on.ensures.over c.if-goes_on.false)
