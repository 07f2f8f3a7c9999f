use Rattle.std.proofs.Common.{◌<◌, ◌≤◌, length, refl, ◌∙◌, arith}
use Rattle.std.proofs.lemmas.List.{drop_more, drop_all}
use Rattle.kc_history.specs.declared.record.Place.{Place}
use Rattle.kc_model.proofs.Pens.{owes_all, owes_then, owes_none}
use Rattle.kc_history.proofs.text.put_order.Goals as goal

pub loop-place-init : goal.loop-place-init
loop-place-init g c = (refl, owes_all _ _)

pub loop-place-preserved : goal.loop-place-preserved
loop-place-preserved g c =
    let nowhere : Place = record { thread = 0; index = 0 } in
    let here : c.loop-place.place-index < length c.args.order.now = omega arith in
    (c.put_order_line.ensures.same_sink ∙ c.loop-place.invariant.0, owes_then c.put_order_line.ensures.asks (rw (drop_more c.args.order.now c.loop-place.place-index nowhere here) at c.loop-place.invariant.1))

pub returns : goal.returns
returns g c =
    let past : length c.args.order.now ≤ c.loop-place.place-index = omega arith in
    record { same_sink = c.loop-place.invariant.0; asks = owes_none (rw (drop_all c.loop-place.place-index c.args.order.now past) at c.loop-place.invariant.1) }
