use Rattle.std.proofs.Common.{rules, ◌++◌, List, ℕ, length, subst}
use Rattle.kc_model.specs.Outside.{Took, TookFront}
use Rattle.kc_text_run.specs.Picking.{AreTextsOf, WereReadByTwo}
use Rattle.kc_top.proofs.Picked.{is_none, is_some, none_end, some_end}
use Rattle.kc_top.proofs.picking.pick.Goals as goal

pub returns-then-is_empty : goal.returns-then-is_empty
returns-then-is_empty g c =
    let none = is_none c.in-Ok.read.1.items _ _ (search (rules, c.in-Ok.read.1.ok.0)) c.is_empty.ensures c.if-is_empty.true in
    none_end g.F.Shelf.files g.F.Shelf.faults g.F.Shelf.sure g.F.Shelf.fetch_gives c.args.texts.now c.args.picks.now c.args.shelf.now c.texts_and_picks.new.shelf g.K.Sink.written g.K.Sink.faults g.K.Sink.write_gives _ _ c.in-Ok.ensures.read c.args.sink.now none

pub returns-in-Ok-write_lines : goal.returns-in-Ok-write_lines
returns-in-Ok-write_lines g c =
    let texts = c.in-Ok.read.0.items in
    let picks = c.in-Ok.read.1.items in
    let read = c.in-Ok-read_by_two.read in
    let some = is_some picks _ _ (search (rules, c.in-Ok.read.1.ok.0)) c.is_empty.ensures c.if-is_empty.false in
    let are : AreTextsOf texts picks (read.front.items ++ read.back.items) = subst (λ (ks : List ℕ). AreTextsOf texts ks (read.front.items ++ read.back.items)) c.deref.ensures.value c.in-Ok-read_by_two.ensures.lines in
    let by_two : WereReadByTwo (length texts) picks read.past = subst (λ (ks : List ℕ). WereReadByTwo (length texts) ks read.past) c.deref.ensures.value c.in-Ok-read_by_two.ensures.past in
    some_end g.F.Shelf.files g.F.Shelf.faults g.F.Shelf.sure g.F.Shelf.fetch_gives c.args.texts.now c.args.picks.now c.args.shelf.now c.texts_and_picks.new.shelf g.K.Sink.written g.K.Sink.faults g.K.Sink.write_gives texts picks c.in-Ok.ensures.read (Took g.K.Sink.written g.K.Sink.faults g.K.Sink.write_gives) _ _ read.front.items read.back.items read.past some are by_two (rw (c.deref-2.ensures.value, c.deref-3.ensures.value) at c.in-Ok-write_lines.ensures.whole)

pub returns : goal.returns
returns g c =
    let texts = c.in-Ok.read.0.items in
    let picks = c.in-Ok.read.1.items in
    let read = c.in-Ok-read_by_two.read in
    let some = is_some picks _ _ (search (rules, c.in-Ok.read.1.ok.0)) c.is_empty.ensures c.if-is_empty.false in
    let are : AreTextsOf texts picks (read.front.items ++ read.back.items) = subst (λ (ks : List ℕ). AreTextsOf texts ks (read.front.items ++ read.back.items)) c.deref.ensures.value c.in-Ok-read_by_two.ensures.lines in
    let by_two : WereReadByTwo (length texts) picks read.past = subst (λ (ks : List ℕ). WereReadByTwo (length texts) ks read.past) c.deref.ensures.value c.in-Ok-read_by_two.ensures.past in
    some_end g.F.Shelf.files g.F.Shelf.faults g.F.Shelf.sure g.F.Shelf.fetch_gives c.args.texts.now c.args.picks.now c.args.shelf.now c.texts_and_picks.new.shelf g.K.Sink.written g.K.Sink.faults g.K.Sink.write_gives texts picks c.in-Ok.ensures.read (TookFront g.K.Sink.written g.K.Sink.faults g.K.Sink.write_gives) _ _ read.front.items read.back.items read.past some are by_two (rw (c.deref-2.ensures.value, c.deref-3.ensures.value) at c.in-Err-write_lines.ensures.front)
