use Rattle.std.proofs.Common.{◌≡◌, ◌-◌}
use Rattle.std.specs.List.{flat_map}
use Rattle.kc_model.specs.Pen.{SheetOwes, sheet}
use Rattle.kc_model.specs.Store.{store_of}
use Rattle.kc_queue.specs.Meaning.{queue_counted, queue_count_cell}
use Rattle.kc_script_bundle.specs.State.{values_from, from_front, queue_shown, number_text}
use Rattle.kc_xt.specs.Meaning.{values}
use Rattle.kc_script_bundle.proofs.content.put_queue.Given as goal

abbrev pub invariant-loop-i : goal.invariant-loop-i
invariant-loop-i g l = record {
  same_sink : l.pen.sink.ghost_name ≡ l.fn.pen.sink.ghost_name;
  owes : SheetOwes g.K.Sink.written g.K.Sink.faults g.K.Sink.write_gives (sheet l.fn.pen) (sheet l.pen) (flat_map number_text (values_from (from_front l.fn.queue (values (store_of l.store))) l.i (queue_counted l.fn.queue (values (store_of l.store) (queue_count_cell l.fn.queue)) - l.i))) (flat_map number_text (queue_shown l.fn.queue (values (store_of l.store))));
}
