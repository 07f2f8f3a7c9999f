use Rattle.std.proofs.Common.{◌<◌, length, arith, sym, ◌∙◌}
use Rattle.kc_script_storm.proofs.Counting.{items_stop, items_next}
use Rattle.kc_script_storm.proofs.summary.are_ok.Goals as goal

pub returns-then-not-is_ok_item : goal.returns-then-not-is_ok_item
returns-then-not-is_ok_item c =
    let within : c.loop-i.i < length c.args.items.now = omega (arith, c.loop-i-test.true, c.len-i-end.ensures.value) in
    items_stop c.args.items.now c.loop-i.i c.get.result within c.get.ensures (sym c.is_ok_item.ensures ∙ c.if-not-is_ok_item.true) c.loop-i.invariant

pub loop-i-preserved : goal.loop-i-preserved
loop-i-preserved c =
    let within : c.loop-i.i < length c.args.items.now = omega (arith, c.loop-i-test.true, c.len-i-end.ensures.value) in
    items_next c.args.items.now c.loop-i.i c.get.result within c.get.ensures (sym c.is_ok_item.ensures ∙ c.if-not-is_ok_item.false) c.loop-i.invariant
