use Rattle.std.proofs.Common.{◌≡◌, ◌+◌, [], drop, arith, sym, ap, ◌∙◌, refl, length-append, drop_of_length-le, true≢false}
use Rattle.kc_term.proofs.Parts.{fit-left, fit-right, fit_at, end-append, end_at, part-cons, left-cons, size_at, is_op, is_seq, is_first}
use Rattle.kc_term.proofs.TermLaw.{obeys_nothing, obeys_part, obeys_part_stops, answers_one}
use Rattle.kc_term.specs.Meaning.{term_meaning, greatest_end}
use Rattle.kc_term.specs.Tree.{trees, operations}
use Rattle.kc_xt.proofs.Composed.{obeys_first_stays, obeys_first_else, obeys_wider, obeys_exits}
use Rattle.kc_xt.specs.Log.{Log}
use Rattle.kc_term.proofs.run.+run.Goals as goal

-- ---- a sequence

pub run_parts-run_term-requires : goal.run_parts-run_term-requires
run_parts-run_term-requires g t c κs within =
    let fit = fit_at g.O.Transact.is_fit g.O.Transact.meaning c.args.parts.now c.loop-part.part-index c.part-item.result c.loop-part-test.true c.part-item.is c.requires.fit in
    let e = end_at g.O.Transact.end c.args.parts.now c.loop-part.part-index c.part-item.result c.loop-part-test.true c.part-item.is in
    let smaller = size_at c.args.parts.now c.loop-part.part-index c.part-item.result c.loop-part-test.true c.part-item.is in
    (omega (arith, c.decreases, smaller), (within.0, (within.1, (fit, omega (arith, e, c.loop-part.invariant.size, c.requires.within)))))

pub run_parts-returns-in_err-reply-clause-law : goal.run_parts-returns-in_err-reply-clause-law
run_parts-returns-in_err-reply-clause-law g t c =
    let e = end_at g.O.Transact.end c.args.parts.now c.loop-part.part-index c.part-item.result c.loop-part-test.true c.part-item.is in
    let next = part-cons c.args.parts.now c.loop-part.part-index c.part-item.result c.loop-part-test.true c.part-item.is in
    obeys_exits {z = c.run_term.new.xt} c.from_residual.ensures.1 (c.loop-part.invariant.law _ _ (rw next (obeys_part_stops _ g.O.Transact.meaning c.part-item.result (trees (drop (c.loop-part.part-index + 1) c.args.parts.now)) c.loop-part.items _ _ _ (obeys_wider _ _ e _ _ _ _ c.in_err-reply.ensures.law))))

pub run_parts-add-requires : goal.run_parts-add-requires
run_parts-add-requires g t c =
    let left = left-cons c.args.parts.now c.loop-part.part-index c.part-item.result c.loop-part-test.true c.part-item.is in
    omega (arith, left, c.in_ok-reply.ensures.items, c.loop-part.invariant.room, c.requires.fit.few)

pub run_parts-loop-part-preserved : goal.run_parts-loop-part-preserved
run_parts-loop-part-preserved g t c =
    let e = end_at g.O.Transact.end c.args.parts.now c.loop-part.part-index c.part-item.result c.loop-part-test.true c.part-item.is in
    let next = part-cons c.args.parts.now c.loop-part.part-index c.part-item.result c.loop-part-test.true c.part-item.is in
    let left = left-cons c.args.parts.now c.loop-part.part-index c.part-item.result c.loop-part-test.true c.part-item.is in
    record {
      room = rw (c.add.ensures, length-append) (omega (arith, left, c.in_ok-reply.ensures.items, c.loop-part.invariant.room));
      size = c.in_ok-reply.ensures.size ∙ c.loop-part.invariant.size;
      law = λ r z h. c.loop-part.invariant.law r z (rw next (obeys_part _ g.O.Transact.meaning c.part-item.result (trees (drop (c.loop-part.part-index + 1) c.args.parts.now)) c.loop-part.items _ _ _ _ _ (obeys_wider _ _ e _ _ _ _ c.in_ok-reply.ensures.law) (rw c.add.ensures at h)));
    }

pub run_parts-returns-clause-law : goal.run_parts-returns-clause-law
run_parts-returns-clause-law g t c =
    let past : drop c.loop-part.part-index c.args.parts.now ≡ [] = drop_of_length-le c.args.parts.now (omega arith) in
    c.loop-part.invariant.law _ _ (rw past (obeys_nothing _ g.O.Transact.meaning _ _))

-- ---- a term

pub run_term-returns-in-Op-clause-items : goal.run_term-returns-in-Op-clause-items
run_term-returns-in-Op-clause-items g t c =
    let is = is_op c.term.view_is c.in-Op.is in
    rw is (answers_one _ _ _ _ _ (rw is at c.requires.fit).single.0 c.run.ensures.law)

pub run_term-run_parts-requires : goal.run_term-run_parts-requires
run_term-run_parts-requires g t c κs within =
    let is = is_seq c.term.view_is c.in-Seq.is in
    rw c.as_slice.ensures.value (omega (arith, rw is at c.decreases), (within.0, (within.1, (rw is at c.requires.fit, rw is at c.requires.within))))

pub run_term-run_first-requires : goal.run_term-run_first-requires
run_term-run_first-requires g t c κs within =
    let is = is_first c.term.view_is c.in-First.is in
    rw (c.deref.ensures, c.deref-in-First.ensures) (omega (arith, rw is at c.decreases), (within.0, (within.1, (rw is at c.requires.fit, rw is at c.requires.within))))

-- ---- alternatives

pub run_behind_few-run_term-tried-requires : goal.run_behind_few-run_term-tried-requires
run_behind_few-run_term-tried-requires g t c κs within =
    let e = end-append g.O.Transact.end (operations c.args.a.now) (operations c.args.b.now) in
    (omega (arith, c.decreases), (within.0, (within.1, (fit-left _ _ _ _ c.requires.fit, omega (arith, e, c.requires.within)))))

pub run_behind_few-run_term-requires : goal.run_behind_few-run_term-requires
run_behind_few-run_term-requires g t c κs within =
    let e = end-append g.O.Transact.end (operations c.args.a.now) (operations c.args.b.now) in
    let kept = ap (λ (x : Log g.row.P.Denot). g.P.Peek.locations x.peek) c.rollback.ensures ∙ c.run_term-tried.ensures.size in
    (omega (arith, c.decreases), (within.0, (within.1, (fit-right _ _ (operations c.args.a.now) _ c.requires.fit, omega (arith, e, kept, c.requires.within)))))

pub run_behind_few-returns-then-not-is_retry-clause-law : goal.run_behind_few-returns-then-not-is_retry-clause-law
run_behind_few-returns-then-not-is_retry-clause-law g t c =
    let a = c.args.a.now in
    let b = c.args.b.now in
    rw end-append (obeys_first_stays _ _ (term_meaning g.O.Transact.meaning b) _ _ _ (λ e. true≢false (sym (c.if-not-is_retry.ensures.1 e))) (obeys_wider (greatest_end g.O.Transact.end (operations a)) _ (omega arith) _ _ _ _ c.run_term-tried.ensures.law))

pub run_behind_few-returns-clause-law : goal.run_behind_few-returns-clause-law
run_behind_few-returns-clause-law g t c =
    let a = c.args.a.now in
    let b = c.args.b.now in
    let waited = rw (c.if-not-is_retry.ensures.0 refl) at c.run_term-tried.ensures.law in
    let back = rw c.snapshot-before.ensures.lines at c.rollback.ensures in
    rw end-append (obeys_first_else _ _ _ _ _ _ _ _ c.snapshot-before.ensures.rising
    (obeys_wider (greatest_end g.O.Transact.end (operations a)) _ (omega arith) _ _ _ _ waited) back
    (obeys_wider (greatest_end g.O.Transact.end (operations b)) _ (omega arith) _ _ _ _ c.run_term.ensures.law))

pub run_behind_many-run_term-tried-requires : goal.run_behind_many-run_term-tried-requires
run_behind_many-run_term-tried-requires g t c κs within =
    let e = end-append g.O.Transact.end (operations c.args.a.now) (operations c.args.b.now) in
    (omega (arith, c.decreases), (within.0, (within.1, (fit-left _ _ _ _ c.requires.fit, omega (arith, e, c.requires.within)))))

pub run_behind_many-run_term-requires : goal.run_behind_many-run_term-requires
run_behind_many-run_term-requires g t c κs within =
    let e = end-append g.O.Transact.end (operations c.args.a.now) (operations c.args.b.now) in
    let kept = ap (λ (x : Log g.row.P.Denot). g.P.Peek.locations x.peek) c.rollback.ensures ∙ c.run_term-tried.ensures.size in
    (omega (arith, c.decreases), (within.0, (within.1, (fit-right _ _ (operations c.args.a.now) _ c.requires.fit, omega (arith, e, kept, c.requires.within)))))

pub run_behind_many-returns-then-not-is_retry-clause-law : goal.run_behind_many-returns-then-not-is_retry-clause-law
run_behind_many-returns-then-not-is_retry-clause-law g t c =
    let a = c.args.a.now in
    let b = c.args.b.now in
    rw end-append (obeys_first_stays _ _ (term_meaning g.O.Transact.meaning b) _ _ _ (λ e. true≢false (sym (c.if-not-is_retry.ensures.1 e))) (obeys_wider (greatest_end g.O.Transact.end (operations a)) _ (omega arith) _ _ _ _ c.run_term-tried.ensures.law))

pub run_behind_many-returns-clause-law : goal.run_behind_many-returns-clause-law
run_behind_many-returns-clause-law g t c =
    let a = c.args.a.now in
    let b = c.args.b.now in
    let waited = rw (c.if-not-is_retry.ensures.0 refl) at c.run_term-tried.ensures.law in
    let back = rw c.snapshot-start.ensures.lines at c.rollback.ensures in
    rw end-append (obeys_first_else _ _ _ _ _ _ _ _ c.snapshot-start.ensures.rising
    (obeys_wider (greatest_end g.O.Transact.end (operations a)) _ (omega arith) _ _ _ _ waited) back
    (obeys_wider (greatest_end g.O.Transact.end (operations b)) _ (omega arith) _ _ _ _ c.run_term.ensures.law))
