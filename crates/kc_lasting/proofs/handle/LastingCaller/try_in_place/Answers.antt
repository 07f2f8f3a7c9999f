use Rattle.std.specs.Arc.{arc_value}
use Rattle.kc_lasting.proofs.Telling.{told_in_vain, told_so}
use Rattle.kc_lasting.specs.Told.{HandleView, standing_of}
use Rattle.kc_store.specs.Verdicts.{verdict_as}
use Rattle.kc_xt.specs.Commit.{tried_of}
use Rattle.kc_xt.specs.Meaning.{limited}
use Rattle.kc_lasting.proofs.handle.LastingCaller.try_in_place.Goals as goal

pub returns-then-stands-clause-told : goal.returns-then-stands-clause-told
returns-then-stands-clause-told g c =
    let r = c.try_in_place-fate in
    let d : HandleView = record { roll = (arc_value c.args.self.now.shared).roll; era = c.stands.new.place.era; lines = c.stands.new.place.page.seen; caller = c.stands.new.client.caller; confirmed = c.stands.new.client.seen.value } in
    told_so (limited (g.T.Transact.most c.args.transaction.now) (g.T.Transact.meaning c.args.transaction.now)) (standing_of c.args.self.now) r.new.footprint r.new.self.caller d r.new.self.seen.value r.ensures.seen r.ensures.remembers r.ensures.tries (verdict_as r.result (tried_of r.new.trial.went r.new.trial.reply)) c.stands.result c.if-stands.true r.ensures.told r.ensures.settles c.stands.ensures.judged

pub returns-else-stands-clause-told : goal.returns-else-stands-clause-told
returns-else-stands-clause-told g c =
    let r = c.try_in_place-fate in
    let d : HandleView = record { roll = (arc_value c.args.self.now.shared).roll; era = c.stands.new.place.era; lines = c.stands.new.place.page.seen; caller = c.stands.new.client.caller; confirmed = c.stands.new.client.seen.value } in
    told_in_vain (limited (g.T.Transact.most c.args.transaction.now) (g.T.Transact.meaning c.args.transaction.now)) (standing_of c.args.self.now) r.new.footprint r.new.self.caller d r.new.self.seen.value r.ensures.seen r.ensures.remembers r.ensures.tries (verdict_as r.result (tried_of r.new.trial.went r.new.trial.reply)) c.stands.result c.if-stands.false r.ensures.told r.ensures.settles c.stands.ensures.judged
