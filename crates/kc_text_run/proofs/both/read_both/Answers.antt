use Rattle.std.proofs.Common.{rules, ◌≡◌, ◌/◌, length, subst, sym}
use Rattle.kc_text_run.proofs.Past.{past_of_picks}
use Rattle.kc_text_run.proofs.Picks.{texts_of_both}
use Rattle.kc_text_run.specs.Picking.{AddsPicks, AreTextsOf, IsPastOfPicks}
use Rattle.kc_text_run.proofs.both.read_both.Goals as goal

pub returns-clause-lines : goal.returns-clause-lines
returns-clause-lines g c =
    let r = c.join-first.result in
    let s = c.split_at.result in
    let a : AreTextsOf c.args.pool.now s.0.now r.0.1.items = search rules in
    let b : AreTextsOf c.args.pool.now s.1.now r.1.1.items = search rules in
    texts_of_both c.args.pool.now c.args.picks.now s.0.now s.1.now (length c.args.picks.now / 2) r.0.1.items r.1.1.items c.split_at.ensures.front c.split_at.ensures.back a b

pub returns-clause-past : goal.returns-clause-past
returns-clause-past g c =
    let r = c.join-first.result in
    let s = c.split_at.result in
    let a : AddsPicks c.args.texts.now 0 s.0.now c.args.first r.0.0 = search rules in
    let b : AddsPicks c.args.texts.now 1 s.1.now c.args.second r.1.0 = search rules in
    let n : r.0.0.number ≡ 0 = search rules in
    let m : r.1.0.number ≡ 1 = search rules in
    subst (IsPastOfPicks c.args.texts.now c.args.picks.now) (sym c.of.ensures) (past_of_picks c.args.texts.now c.args.picks.now s.0.now s.1.now c.args.store c.finish.result c.args.first r.0.0 c.args.second r.1.0 c.requires.store c.finish.ensures.past.origin (rw (c.push_reserved-2.ensures.items, c.push_reserved.ensures.items, c.requires.room.0) at c.finish.ensures.history) c.finish.ensures.within n m c.requires.first.2 c.requires.second.2 a b c.split_at.ensures.front c.split_at.ensures.back)
