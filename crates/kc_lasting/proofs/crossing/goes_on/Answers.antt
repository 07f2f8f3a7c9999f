use Rattle.kc_lasting.proofs.GoingOver.{passes_back}
use Rattle.kc_lasting.specs.Eras.{IsEnded}
use Rattle.kc_lasting.proofs.crossing.goes_on.Goals as goal

pub returns-clause-over : goal.returns-clause-over
returns-clause-over g c = λ _.
    let b = c.args.client.now in
    passes_back (IsEnded c.cross.new.place.page.seen c.args.place.now.era) b.seen.value c.is_open.new.self.seen.value b.caller c.is_open.new.self.caller c.cross.new.client.caller c.cross.new.client.seen.value _ c.is_open.ensures.learns (c.is_open.ensures.stays c.if-is_open.false) c.cross.result c.cross.ensures.crosses
