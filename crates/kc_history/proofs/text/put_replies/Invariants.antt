use Rattle.std.proofs.Common.{◌≡◌, drop}
use Rattle.kc_history.specs.Records.{lists_of}
use Rattle.kc_history.specs.Text.{reply_lines}
use Rattle.kc_model.specs.Pen.{sheet, SheetOwes}
use Rattle.kc_history.proofs.text.put_replies.Given as goal

abbrev pub invariant-loop-list : goal.invariant-loop-list
invariant-loop-list g l =
    (l.pen.sink.ghost_name ≡ l.fn.pen.sink.ghost_name)
    × SheetOwes g.K.Sink.written g.K.Sink.faults g.K.Sink.write_gives (sheet l.fn.pen) (sheet l.pen) (reply_lines (lists_of (drop l.list-index l.records))) (reply_lines (lists_of l.records))
