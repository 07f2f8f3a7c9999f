use Rattle.std.proofs.Common.{◌≡◌, drop}
use Rattle.kc_history.specs.Records.{lists_of}
use Rattle.kc_history.specs.Text.{order_lines}
use Rattle.kc_model.specs.Pen.{sheet, SheetOwes}
use Rattle.kc_history.proofs.text.put_order.Given as goal

abbrev pub invariant-loop-place : goal.invariant-loop-place
invariant-loop-place g l =
    (l.pen.sink.ghost_name ≡ l.fn.pen.sink.ghost_name)
    × SheetOwes g.K.Sink.written g.K.Sink.faults g.K.Sink.write_gives (sheet l.fn.pen) (sheet l.pen) (order_lines (lists_of l.records) (drop l.place-index l.order)) (order_lines (lists_of l.records) l.order)
