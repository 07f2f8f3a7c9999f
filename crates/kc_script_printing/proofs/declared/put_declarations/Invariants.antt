use Rattle.std.proofs.Common.{◌≡◌, drop}
use Rattle.std.specs.List.{flat_map}
use Rattle.kc_model.specs.Pen.{SheetOwes, sheet}
use Rattle.kc_script_printing.proofs.Texts.{declaration_text}
use Rattle.kc_script_bundle.specs.Script.{names_of}
use Rattle.kc_script_printing.proofs.declared.put_declarations.Given as goal

abbrev pub invariant-loop-i : goal.invariant-loop-i
invariant-loop-i g l = record {
  same_sink : l.pen.sink.ghost_name ≡ l.fn.pen.sink.ghost_name;
  owes : SheetOwes g.K.Sink.written g.K.Sink.faults g.K.Sink.write_gives (sheet l.fn.pen) (sheet l.pen) (flat_map declaration_text (drop l.i (names_of l.objects))) (flat_map declaration_text (names_of l.objects));
}
