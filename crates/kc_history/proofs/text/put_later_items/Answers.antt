use Rattle.std.proofs.Common.{◌<◌, ◌≤◌, length, refl, ◌∙◌, arith}
use Rattle.std.proofs.lemmas.List.{drop_more, drop_all}
use Rattle.std.proofs.lemmas.Option.{get_or_from_slice_get}
use Rattle.kc_model.proofs.Pens.{owes_all, owes_then, owes_none, puts_then}
use Rattle.kc_history.proofs.text.put_later_items.Goals as goal

pub loop-i-init : goal.loop-i-init
loop-i-init g c = (refl, owes_all _ _)

pub loop-i-preserved : goal.loop-i-preserved
loop-i-preserved g c =
    let here : c.loop-i.i < length c.args.items.now = omega arith in
    let puts = puts_then c.put.ensures c.put_item.ensures in
    (puts.same_sink ∙ c.loop-i.invariant.0, owes_then puts.asks (rw (drop_more c.args.items.now c.loop-i.i c.get.result here, get_or_from_slice_get c.args.items.now c.loop-i.i c.get.result c.get.result c.get.ensures) at c.loop-i.invariant.1))

pub returns : goal.returns
returns g c =
    let past : length c.args.items.now ≤ c.loop-i.i = omega arith in
    record { same_sink = c.loop-i.invariant.0; asks = owes_none (rw (drop_all c.loop-i.i c.args.items.now past) at c.loop-i.invariant.1) }
