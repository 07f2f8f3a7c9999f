use Rattle.std.proofs.Common.{◌≡◌, drop}
use Rattle.kc_model.specs.Pen.{SheetOwes, sheet}
use Rattle.kc_script.specs.Canonical.{command_lines, text_of_lines}
use Rattle.kc_script_bundle.specs.Script.{names_of}
use Rattle.kc_script_printing.proofs.printing.put_commands.Given as goal

abbrev pub invariant-loop-command : goal.invariant-loop-command
invariant-loop-command g l = record {
  same_sink : l.pen.sink.ghost_name ≡ l.fn.pen.sink.ghost_name;
  owes : SheetOwes g.K.Sink.written g.K.Sink.faults g.K.Sink.write_gives (sheet l.fn.pen) (sheet l.pen) (text_of_lines (command_lines (names_of l.objects) (drop l.command-index l.commands))) (text_of_lines (command_lines (names_of l.objects) l.commands));
}
