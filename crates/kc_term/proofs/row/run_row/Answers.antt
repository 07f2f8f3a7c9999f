use Rattle.std.proofs.Common.{◌≡◌, ◌+◌, [], drop, arith, ◌∙◌, drop_of_length-le, length-append}
use Rattle.kc_term.proofs.Rows.{each_at, row-end_at, row-cons}
use Rattle.kc_term.specs.Row.{row_of}
use Rattle.kc_term.proofs.TermLaw.{answers_one, obeys_nothing, obeys_part, obeys_part_stops}
use Rattle.kc_term.specs.Tree.{op, trees}
use Rattle.kc_xt.proofs.Composed.{obeys_exits, obeys_wider}
use Rattle.kc_xt.specs.Structure.{RepliesOneItem}
use Rattle.kc_term.proofs.row.run_row.Goals as goal

pub run-requires-clause-within : goal.run-requires-clause-within
run-requires-clause-within g c =
    let e = row-end_at g.O.Transact.end c.args.ops.now c.loop-operation.operation-index c.operation-item.result c.loop-operation-test.true c.operation-item.is in
    omega (arith, e, c.loop-operation.invariant.size, c.requires.within)

pub returns-in_err-reply-clause-law : goal.returns-in_err-reply-clause-law
returns-in_err-reply-clause-law g c =
    let e = row-end_at g.O.Transact.end c.args.ops.now c.loop-operation.operation-index c.operation-item.result c.loop-operation-test.true c.operation-item.is in
    let next = row-cons c.args.ops.now c.loop-operation.operation-index c.operation-item.result c.loop-operation-test.true c.operation-item.is in
    obeys_exits {z = c.run.new.xt} c.from_residual.ensures.1 (c.loop-operation.invariant.law _ _ (rw next (obeys_part_stops _ g.O.Transact.meaning (op c.operation-item.result) (trees (row_of (drop (c.loop-operation.operation-index + 1) c.args.ops.now))) c.loop-operation.items _ _ _ (obeys_wider _ _ e _ _ _ _ c.in_err-reply.ensures.law))))

pub add-requires : goal.add-requires
add-requires g c =
    let one = answers_one _ _ _ _ _ (each_at (λ o. RepliesOneItem (g.O.Transact.meaning o)) c.args.ops.now c.loop-operation.operation-index c.operation-item.result c.loop-operation-test.true c.operation-item.is c.requires.fit.single) c.in_ok-reply.ensures.law in
    omega (arith, one, c.loop-operation.invariant.room, c.loop-operation-test.true, c.requires.fit.few)

pub loop-operation-preserved : goal.loop-operation-preserved
loop-operation-preserved g c =
    let e = row-end_at g.O.Transact.end c.args.ops.now c.loop-operation.operation-index c.operation-item.result c.loop-operation-test.true c.operation-item.is in
    let next = row-cons c.args.ops.now c.loop-operation.operation-index c.operation-item.result c.loop-operation-test.true c.operation-item.is in
    let one = answers_one _ _ _ _ _ (each_at (λ o. RepliesOneItem (g.O.Transact.meaning o)) c.args.ops.now c.loop-operation.operation-index c.operation-item.result c.loop-operation-test.true c.operation-item.is c.requires.fit.single) c.in_ok-reply.ensures.law in
    record {
      room = rw (c.add.ensures, length-append) (omega (arith, one, c.loop-operation.invariant.room));
      size = c.in_ok-reply.ensures.size ∙ c.loop-operation.invariant.size;
      law = λ r z h. c.loop-operation.invariant.law r z (rw next (obeys_part _ g.O.Transact.meaning (op c.operation-item.result) (trees (row_of (drop (c.loop-operation.operation-index + 1) c.args.ops.now))) c.loop-operation.items _ _ _ _ _ (obeys_wider _ _ e _ _ _ _ c.in_ok-reply.ensures.law) (rw c.add.ensures at h)));
    }

pub returns-clause-law : goal.returns-clause-law
returns-clause-law g c =
    let past : drop c.loop-operation.operation-index c.args.ops.now ≡ [] = drop_of_length-le c.args.ops.now (omega arith) in
    c.loop-operation.invariant.law _ _ (rw past (obeys_nothing _ g.O.Transact.meaning _ _))
