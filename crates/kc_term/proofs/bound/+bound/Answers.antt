use Rattle.std.proofs.Common.{arith}
use Rattle.kc_term.proofs.Parts.{end-cons, size_at, is_seq, is_first}
use Rattle.kc_term.proofs.bound.+bound.Goals as goal

pub parts_bound-term_bound-requires : goal.parts_bound-term_bound-requires
parts_bound-term_bound-requires g t c κs within =
    (omega (arith, c.decreases, size_at c.args.parts.now c.loop-part.part-index c.part-item.result c.loop-part-test.true c.part-item.is), within)

pub parts_bound-loop-part-preserved : goal.parts_bound-loop-part-preserved
parts_bound-loop-part-preserved g t c =
    let e = end-cons g.O.Transact.end c.args.parts.now c.loop-part.part-index c.part-item.result c.loop-part-test.true c.part-item.is in
    omega (arith, e, c.max-most.ensures, c.term_bound.ensures, c.loop-part.invariant)

pub term_bound-parts_bound-requires : goal.term_bound-parts_bound-requires
term_bound-parts_bound-requires g t c κs within =
    let is = is_seq c.term.view_is c.in-Seq.is in
    rw c.as_slice.ensures.value (omega (arith, rw is at c.decreases), within)

pub term_bound-term_bound-requires : goal.term_bound-term_bound-requires
term_bound-term_bound-requires g t c κs within =
    let is = is_first c.term.view_is c.in-First.is in
    rw c.deref.ensures (omega (arith, rw is at c.decreases), within)

pub term_bound-term_bound-requires-in-First : goal.term_bound-term_bound-requires-in-First
term_bound-term_bound-requires-in-First g t c κs within =
    let is = is_first c.term.view_is c.in-First.is in
    rw c.deref-in-First.ensures (omega (arith, rw is at c.decreases), within)
