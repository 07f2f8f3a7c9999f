use Rattle.std.proofs.Common.{◌∙◌, refl, arith}
use Rattle.kc_model.specs.Store.{store_of}
use Rattle.kc_script_bundle.proofs.Listed.{items_first, item_next, items_last}
use Rattle.kc_script_bundle.specs.State.{from_top}
use Rattle.kc_xt.specs.Meaning.{values}
use Rattle.kc_script_bundle.proofs.content.put_stack.Goals as goal

pub loop-i-init : goal.loop-i-init
loop-i-init g c = record { same_sink = refl; owes = items_first (from_top c.args.stack (values (store_of c.args.store.now))) _ }

pub loop-i-preserved : goal.loop-i-preserved
loop-i-preserved g c = record {
  same_sink = c.put_number.ensures.same_sink ∙ c.loop-i.invariant.same_sink;
  owes = item_next (from_top c.args.stack (values (store_of c.args.store.now))) c.loop-i.i _ _ (omega (arith, c.count-i-end.ensures.is)) c.item.ensures.is c.put_number.ensures.asks c.loop-i.invariant.owes;
}

pub returns : goal.returns
returns g c = record {
  same_sink = c.loop-i.invariant.same_sink;
  asks = items_last (from_top c.args.stack (values (store_of c.args.store.now))) c.loop-i.i _ (omega (arith, c.count-i-end.ensures.is)) c.loop-i.invariant.owes;
}
