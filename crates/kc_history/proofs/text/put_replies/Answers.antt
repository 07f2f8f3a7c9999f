use Rattle.std.proofs.Common.{◌<◌, ◌≤◌, length, refl, ◌∙◌, arith}
use Rattle.std.proofs.lemmas.List.{drop_more, drop_all}
use Rattle.kc_model.proofs.Pens.{owes_all, owes_then, owes_none}
use Rattle.kc_history.proofs.text.put_replies.Goals as goal

pub loop-list-init : goal.loop-list-init
loop-list-init g c = (refl, owes_all _ _)

pub loop-list-preserved : goal.loop-list-preserved
loop-list-preserved g c =
    let here : c.loop-list.list-index < length c.args.records.now = omega arith in
    (c.put_thread_replies.ensures.same_sink ∙ c.loop-list.invariant.0, owes_then c.put_thread_replies.ensures.asks (rw (drop_more c.args.records.now c.loop-list.list-index c.list-item.result here, ← c.list-item.is) at c.loop-list.invariant.1))

pub returns : goal.returns
returns g c =
    let past : length c.args.records.now ≤ c.loop-list.list-index = omega arith in
    record { same_sink = c.loop-list.invariant.0; asks = owes_none (rw (drop_all c.loop-list.list-index c.args.records.now past) at c.loop-list.invariant.1) }
