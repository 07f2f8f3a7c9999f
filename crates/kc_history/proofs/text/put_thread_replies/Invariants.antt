use Rattle.std.proofs.Common.{◌≡◌, drop}
use Rattle.std.specs.List.{flat_map}
use Rattle.kc_history.specs.Text.{reply_line}
use Rattle.kc_model.specs.Pen.{sheet, SheetOwes}
use Rattle.kc_history.proofs.text.put_thread_replies.Given as goal

abbrev pub invariant-loop-i : goal.invariant-loop-i
invariant-loop-i g l =
    (l.pen.sink.ghost_name ≡ l.fn.pen.sink.ghost_name)
    × SheetOwes g.K.Sink.written g.K.Sink.faults g.K.Sink.write_gives (sheet l.fn.pen) (sheet l.pen) (flat_map reply_line (drop l.i l.list.items)) (flat_map reply_line l.list.items)
