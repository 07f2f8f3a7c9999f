use Rattle.std.proofs.Common.{◌≡◌, ◌-◌}
use Rattle.std.specs.List.{flat_map}
use Rattle.kc_model.specs.Pen.{SheetOwes, sheet}
use Rattle.kc_model.specs.Store.{store_of}
use Rattle.kc_script_bundle.specs.State.{values_from, from_top, stack_shown, number_text}
use Rattle.kc_stack.specs.Meaning.{stack_counted}
use Rattle.kc_xt.specs.Meaning.{values}
use Rattle.kc_script_bundle.proofs.content.put_stack.Given as goal

abbrev pub invariant-loop-i : goal.invariant-loop-i
invariant-loop-i g l = record {
  same_sink : l.pen.sink.ghost_name ≡ l.fn.pen.sink.ghost_name;
  owes : SheetOwes g.K.Sink.written g.K.Sink.faults g.K.Sink.write_gives (sheet l.fn.pen) (sheet l.pen) (flat_map number_text (values_from (from_top l.fn.stack (values (store_of l.store))) l.i (stack_counted l.fn.stack (values (store_of l.store) l.fn.stack.base.0) - l.i))) (flat_map number_text (stack_shown l.fn.stack (values (store_of l.store))));
}
