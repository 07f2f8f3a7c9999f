use Rattle.std.proofs.Common.{◌≡◌, drop}
use Rattle.kc_history.specs.Text.{spaced_items}
use Rattle.kc_model.specs.Pen.{sheet, SheetOwes}
use Rattle.kc_history.proofs.text.put_later_items.Given as goal

abbrev pub invariant-loop-i : goal.invariant-loop-i
invariant-loop-i g l =
    (l.pen.sink.ghost_name ≡ l.fn.pen.sink.ghost_name)
    × SheetOwes g.K.Sink.written g.K.Sink.faults g.K.Sink.write_gives (sheet l.fn.pen) (sheet l.pen) (spaced_items (drop l.i l.items)) (spaced_items (drop 1 l.items))
