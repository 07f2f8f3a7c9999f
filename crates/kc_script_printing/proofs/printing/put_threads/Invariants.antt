use Rattle.std.proofs.Common.{◌≡◌, drop}
use Rattle.std.specs.List.{flat_map}
use Rattle.kc_model.specs.Pen.{SheetOwes, sheet}
use Rattle.kc_script_printing.proofs.Texts.{thread_text}
use Rattle.kc_script_bundle.specs.Script.{names_of}
use Rattle.kc_script_printing.proofs.printing.put_threads.Given as goal

abbrev pub invariant-loop-commands : goal.invariant-loop-commands
invariant-loop-commands g l = record {
  same_sink : l.pen.sink.ghost_name ≡ l.fn.pen.sink.ghost_name;
  owes : SheetOwes g.K.Sink.written g.K.Sink.faults g.K.Sink.write_gives (sheet l.fn.pen) (sheet l.pen) (flat_map (λ commands. thread_text (names_of l.objects) commands.items) (drop l.commands-index l.threads)) (flat_map (λ commands. thread_text (names_of l.objects) commands.items) l.threads);
}
