use Rattle.std.proofs.Common.{◌≡◌, drop}
use Rattle.std.specs.List.{flat_map}
use Rattle.kc_model.specs.Pen.{sheet, SheetOwes}
use Rattle.kc_text_files.specs.Files.{file_line}
use Rattle.kc_text_run.proofs.writing.put_lines.Given as goal

abbrev pub invariant-loop-i : goal.invariant-loop-i
invariant-loop-i g l =
    (l.pen.sink.ghost_name ≡ l.fn.pen.sink.ghost_name)
    × SheetOwes g.K.Sink.written g.K.Sink.faults g.K.Sink.write_gives (sheet l.fn.pen) (sheet l.pen) (flat_map file_line (drop l.i l.lines)) (flat_map file_line l.lines)
