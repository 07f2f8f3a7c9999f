use Rattle.std.proofs.Common.{◌≡◌, drop}
use Rattle.std.specs.List.{flat_map}
use Rattle.kc_model.specs.Pen.{SheetOwes, sheet}
use Rattle.kc_model.specs.Store.{store_of}
use Rattle.kc_script_bundle.specs.Script.{names_of}
use Rattle.kc_script_bundle.specs.State.{shown, state_line, state_text}
use Rattle.kc_xt.specs.Meaning.{values}
use Rattle.kc_script_bundle.proofs.state.put_state.Given as goal

abbrev pub invariant-loop-i : goal.invariant-loop-i
invariant-loop-i g l = record {
  same_sink : l.pen.sink.ghost_name ≡ l.fn.pen.sink.ghost_name;
  owes : SheetOwes g.K.Sink.written g.K.Sink.faults g.K.Sink.write_gives (sheet l.fn.pen) (sheet l.pen) (flat_map (λ entry. state_line entry.0 (shown entry.1 (values (store_of l.store)))) (drop l.i (names_of l.bundle.objects))) (state_text (names_of l.bundle.objects) (values (store_of l.store)));
}
