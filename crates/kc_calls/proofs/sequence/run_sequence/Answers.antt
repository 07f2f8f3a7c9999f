use Rattle.std.proofs.Common.{◌≡◌, ◌+◌, ◌++◌, [], drop, arith, ◌∙◌, drop_of_length-le, length-append}
use Rattle.kc_calls.proofs.Feeding.{fed_one, operation_at, operation_is}
use Rattle.kc_calls.specs.Fed.{fed}
use Rattle.kc_calls.specs.Meaning.{IsOperation, meaning_fed, row_behind, said_end}
use Rattle.kc_model.specs.declared.plain_store.TheConstants.{MOST_LOCATIONS}
use Rattle.kc_model.specs.declared.reply.Reply.TheVariants as reply
use Rattle.kc_term.proofs.Rows.{each_at, row-end_at, row-cons}
use Rattle.kc_term.proofs.TermLaw.{answers_one}
use Rattle.kc_term.specs.Meaning.{items_of}
use Rattle.kc_xt.proofs.Chain.{does_reply}
use Rattle.kc_xt.proofs.Composed.{obeys_exits, obeys_then, obeys_then_stops, obeys_wider}
use Rattle.kc_xt.proofs.Laws.{law_of}
use Rattle.kc_calls.proofs.sequence.run_sequence.Goals as goal

pub run_behind-requires-clause-fit : goal.run_behind-requires-clause-fit
run_behind-requires-clause-fit g c = each_at (IsOperation MOST_LOCATIONS) c.args.ops.now c.loop-op.op-index (operation_at c.args.ops.now c.loop-op.op-index) c.loop-op-test.true (operation_is c.args.ops.now c.loop-op.op-index c.loop-op-test.true) c.requires.fit.each

pub run_behind-requires-clause-within : goal.run_behind-requires-clause-within
run_behind-requires-clause-within g c =
    let e = row-end_at said_end c.args.ops.now c.loop-op.op-index (operation_at c.args.ops.now c.loop-op.op-index) c.loop-op-test.true (operation_is c.args.ops.now c.loop-op.op-index c.loop-op-test.true) in
    omega (arith, e, c.loop-op.invariant.size, c.requires.within)

pub returns-in_err-reply-clause-law : goal.returns-in_err-reply-clause-law
returns-in_err-reply-clause-law g c =
    let e = row-end_at said_end c.args.ops.now c.loop-op.op-index (operation_at c.args.ops.now c.loop-op.op-index) c.loop-op-test.true (operation_is c.args.ops.now c.loop-op.op-index c.loop-op-test.true) in
    let next = row-cons c.args.ops.now c.loop-op.op-index (operation_at c.args.ops.now c.loop-op.op-index) c.loop-op-test.true (operation_is c.args.ops.now c.loop-op.op-index c.loop-op-test.true) in
    let items = c.loop-op.items in
    let behind = drop (c.loop-op.op-index + 1) c.args.ops.now in
    obeys_exits {z = c.run_behind.new.xt} c.from_residual.ensures.1 (c.loop-op.invariant.law _ _ (rw next (obeys_then_stops _ (meaning_fed (fed items (operation_at c.args.ops.now c.loop-op.op-index))) (λ a. row_behind behind (items ++ items_of a)) _ _ _ (obeys_wider _ _ e _ _ _ _ c.in_err-reply.ensures.law))))

pub add_item-requires-clause-one : goal.add_item-requires-clause-one
add_item-requires-clause-one g c = answers_one _ _ _ _ _ (fed_one (fed c.loop-op.items (operation_at c.args.ops.now c.loop-op.op-index))) c.in_ok-reply.ensures.law

pub add_item-requires-clause-room : goal.add_item-requires-clause-room
add_item-requires-clause-room g c = omega (arith, c.loop-op.invariant.room, c.loop-op-test.true, c.requires.fit.few)

pub loop-op-preserved : goal.loop-op-preserved
loop-op-preserved g c =
    let e = row-end_at said_end c.args.ops.now c.loop-op.op-index (operation_at c.args.ops.now c.loop-op.op-index) c.loop-op-test.true (operation_is c.args.ops.now c.loop-op.op-index c.loop-op-test.true) in
    let next = row-cons c.args.ops.now c.loop-op.op-index (operation_at c.args.ops.now c.loop-op.op-index) c.loop-op-test.true (operation_is c.args.ops.now c.loop-op.op-index c.loop-op-test.true) in
    let one = answers_one _ _ _ _ _ (fed_one (fed c.loop-op.items (operation_at c.args.ops.now c.loop-op.op-index))) c.in_ok-reply.ensures.law in
    let items = c.loop-op.items in
    let behind = drop (c.loop-op.op-index + 1) c.args.ops.now in
    record {
      room = rw (c.add_item.ensures, length-append) (omega (arith, one, c.loop-op.invariant.room));
      size = c.in_ok-reply.ensures.size ∙ c.loop-op.invariant.size;
      law = λ r z h. c.loop-op.invariant.law r z (rw next (obeys_then _ (meaning_fed (fed items (operation_at c.args.ops.now c.loop-op.op-index))) (λ a. row_behind behind (items ++ items_of a)) _ _ _ _ _ (obeys_wider _ _ e _ _ _ _ c.in_ok-reply.ensures.law) (rw c.add_item.ensures at h)));
    }

pub returns-clause-law : goal.returns-clause-law
returns-clause-law g c =
    let past : drop c.loop-op.op-index c.args.ops.now ≡ [] = drop_of_length-le c.args.ops.now (omega arith) in
    c.loop-op.invariant.law _ _ (rw past (law_of _ (λ k. k (reply.Many c.loop-op.items)) _ tt (λ e. absurd (cc)) _ does_reply))
