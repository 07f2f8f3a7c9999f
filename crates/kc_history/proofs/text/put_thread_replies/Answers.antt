use Rattle.std.proofs.Common.{◌≤◌, length, refl, ◌∙◌, arith}
use Rattle.std.proofs.lemmas.List.{drop_all}
use Rattle.kc_history.proofs.Lines.{head_reply}
use Rattle.kc_model.proofs.Pens.{owes_all, owes_then, owes_none}
use Rattle.kc_history.proofs.text.put_thread_replies.Goals as goal

pub loop-i-init : goal.loop-i-init
loop-i-init g c = (refl, owes_all _ _)

pub loop-i-preserved : goal.loop-i-preserved
loop-i-preserved g c = (
  c.put_reply_line.ensures.same_sink ∙ c.loop-i.invariant.0,
  owes_then c.put_reply_line.ensures.asks (rw (head_reply c.args.list.now.items c.loop-i.i c.head.result.now c.head.ensures) at c.loop-i.invariant.1),
)

pub returns : goal.returns
returns g c =
    let past : length c.args.list.now.items ≤ c.loop-i.i = (let a = c.len-i-end.ensures in let b = c.loop-i-test.false in omega arith) in
    record { same_sink = c.loop-i.invariant.0; asks = owes_none (rw (drop_all c.loop-i.i c.args.list.now.items past) at c.loop-i.invariant.1) }
