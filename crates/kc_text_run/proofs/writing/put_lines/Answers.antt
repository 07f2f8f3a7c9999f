use Rattle.std.proofs.Common.{◌<◌, ◌≤◌, length, refl, ◌∙◌, subst}
use Rattle.kc_model.proofs.Pens.{owes_all, owes_next, owes_last}
use Rattle.kc_model.specs.Pen.{Asks, sheet}
use Rattle.kc_text_files.specs.Files.{file_line}
use Rattle.kc_text_run.proofs.writing.put_lines.Goals as goal

pub loop-i-init : goal.loop-i-init
loop-i-init g c = (refl, owes_all _ _)

pub loop-i-preserved : goal.loop-i-preserved
loop-i-preserved g c =
    let lt : c.loop-i.i < length c.args.lines.now = c.loop-i-test.true in
    let asks = subst (λ x. Asks g.K.Sink.written g.K.Sink.faults g.K.Sink.write_gives (sheet c.loop-i.pen) (sheet c.put_line.new.pen) (file_line x)) c.index-lines-i.is c.put_line.ensures.asks in
    (c.put_line.ensures.same_sink ∙ c.loop-i.invariant.0, owes_next file_line c.args.lines.now c.loop-i.i c.index-lines-i.result lt asks c.loop-i.invariant.1)

pub returns : goal.returns
returns g c =
    let past : length c.args.lines.now ≤ c.loop-i.i = c.loop-i-test.false in
    record { same_sink = c.loop-i.invariant.0; asks = owes_last file_line c.args.lines.now c.loop-i.i past c.loop-i.invariant.1 }
