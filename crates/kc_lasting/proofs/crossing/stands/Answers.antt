use Rattle.std.proofs.Common.{inl, subst}
use Rattle.kc_lasting.proofs.GoingOver.{before_there, behind_there, judged_all, on_back, stays_on_there}
use Rattle.kc_lasting.specs.Eras.{IsEnded}
use Rattle.kc_lasting.specs.Told.{GoesOver}
use Rattle.kc_store.specs.Views.{CallerView}
use Rattle.kc_lasting.proofs.crossing.stands.Goals as goal

pub returns-in-Stays-clause-judged : goal.returns-in-Stays-clause-judged
returns-in-Stays-clause-judged g c = inl (on_back c.args.client.now.caller c.is_open.new.self.caller c.cross.new.client.caller c.cross.new.client.seen.value c.is_open.ensures.learns c.in-Stays.ensures.crosses)

pub returns-in-Before-clause-judged : goal.returns-in-Before-clause-judged
returns-in-Before-clause-judged g c =
    let b = c.args.client.now in
    let d = c.cross.new.client in
    let went : GoesOver (IsEnded c.cross.new.place.page.seen c.args.place.now.era) b.caller c.is_open.new.self.caller d.caller d.seen.value = subst (λ (x : CallerView). GoesOver (IsEnded c.cross.new.place.page.seen c.args.place.now.era) x c.is_open.new.self.caller d.caller d.seen.value) (c.is_open.ensures.seen c.if-is_open.true) c.in-Before.ensures.crosses.0 in
    judged_all (IsEnded c.cross.new.place.page.seen c.args.place.now.era) b.locations b.flag b.seen.value b.caller c.is_open.new.self.caller d.caller d.seen.value c.args.footprint.now c.shows.ensures.view b.early c.is_open.ensures.learns c.args.worn c.requires.worn went

pub returns-in-Behind-clause-judged : goal.returns-in-Behind-clause-judged
returns-in-Behind-clause-judged g c =
    let b = c.args.client.now in
    let d = c.cross.new.client in
    let went : GoesOver (IsEnded c.cross.new.place.page.seen c.args.place.now.era) b.caller c.is_open.new.self.caller d.caller d.seen.value = subst (λ (x : CallerView). GoesOver (IsEnded c.cross.new.place.page.seen c.args.place.now.era) x c.is_open.new.self.caller d.caller d.seen.value) (c.is_open.ensures.seen c.if-is_open.true) c.in-Behind.ensures.crosses.0 in
    judged_all (IsEnded c.cross.new.place.page.seen c.args.place.now.era) b.locations b.flag b.seen.value b.caller c.is_open.new.self.caller d.caller d.seen.value c.args.footprint.now c.shows.ensures.view b.early c.is_open.ensures.learns c.args.worn c.requires.worn went

pub returns-in-Stays-cross-clause-judged : goal.returns-in-Stays-cross-clause-judged
returns-in-Stays-cross-clause-judged g c = inl (on_back c.args.client.now.caller c.is_open.new.self.caller c.cross-2.new.client.caller c.cross-2.new.client.seen.value c.is_open.ensures.learns c.in-Stays-cross.ensures.crosses)

pub returns-in-Before-cross-clause-judged : goal.returns-in-Before-cross-clause-judged
returns-in-Before-cross-clause-judged g c =
    let b = c.args.client.now in
    let d = c.cross-2.new.client in
    before_there (IsEnded c.cross-2.new.place.page.seen c.args.place.now.era) b.seen.value c.is_open.new.self.seen.value b.caller c.is_open.new.self.caller d.caller d.seen.value c.args.footprint.now c.is_open.ensures.learns (c.is_open.ensures.stays c.if-is_open.false) c.in-Before-cross.ensures.crosses

pub returns-in-Behind-cross-clause-judged : goal.returns-in-Behind-cross-clause-judged
returns-in-Behind-cross-clause-judged g c =
    let b = c.args.client.now in
    let d = c.cross-2.new.client in
    behind_there (IsEnded c.cross-2.new.place.page.seen c.args.place.now.era) b.seen.value c.is_open.new.self.seen.value b.caller c.is_open.new.self.caller d.caller d.seen.value c.args.footprint.now c.is_open.ensures.learns (c.is_open.ensures.stays c.if-is_open.false) c.in-Behind-cross.ensures.crosses

pub returns-then-not-worn-clause-judged : goal.returns-then-not-worn-clause-judged
returns-then-not-worn-clause-judged g c = inl (stays_on_there c.args.client.now.caller c.is_open.new.self.caller c.is_open.new.self.seen.value (c.is_open.ensures.seen c.if-is_open.true) c.is_open.ensures.learns).0
