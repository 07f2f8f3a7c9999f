use Rattle.std.proofs.Common.{◌≡◌, length}
use Rattle.std.specs.List.{flat_map}
use Rattle.kc_cache.specs.Content.{cache_shown}
use Rattle.kc_model.specs.Pen.{SheetOwes, sheet}
use Rattle.kc_model.specs.Store.{store_of}
use Rattle.kc_script_bundle.specs.State.{pair_text}
use Rattle.kc_xt.specs.Meaning.{values}
use Rattle.kc_script_bundle.proofs.content.put_cache.Given as goal

abbrev pub invariant-loop-key : goal.invariant-loop-key
invariant-loop-key g l = record {
  same_sink : l.pen.sink.ghost_name ≡ l.fn.pen.sink.ghost_name;
  owes : SheetOwes g.K.Sink.written g.K.Sink.faults g.K.Sink.write_gives (sheet l.fn.pen) (sheet l.pen) (flat_map pair_text l.pairs) (flat_map pair_text (cache_shown l.fn.cache (values (store_of l.store))));
}

abbrev pub decreases-loop-key : goal.decreases-loop-key
decreases-loop-key g l = length l.pairs
