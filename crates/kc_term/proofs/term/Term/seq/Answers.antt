use Rattle.std.proofs.Common.{◌≡◌, ◌≤◌, true, false, arith, min, refl, drop, length, [], ap, ◌∙◌, drop_of_length-le}
use Rattle.std.specs.Prelude.{nat_le}
use Rattle.std.proofs.lemmas.Bool.Decides.{nat_tests}
use Rattle.std.proofs.Math.Facts.{Fits-of_lt}
use Rattle.kc_term.proofs.Parts.{left-cons, nesting-cons}
use Rattle.kc_term.specs.Tree.{trees, all_operations, operations, nesting}
use Rattle.kc_term.specs.declared.term.TheConstants.{MOST_OPERATIONS}
use Rattle.kc_term.proofs.term.Term.seq.Goals as goal

pub overflow_add-operations : goal.overflow_add-operations
overflow_add-operations g c =
    let few : c.part.inside.operations ≤ 17 = omega (arith, c.part.invariant.counted) in
    Fits-of_lt (omega (arith, few, c.loop-part.invariant.few))

pub loop-part-preserved : goal.loop-part-preserved
loop-part-preserved g c =
    let ts = c.deref-part-items.result.now in
    let i = c.loop-part.part-index in
    let x = c.part-item.result in
    let left = left-cons ts i x c.loop-part-test.true c.part-item.is in
    let deep = nesting-cons ts i x c.loop-part-test.true c.part-item.is in
    let number = c.part.invariant.counted ∙ ap (λ t. min (length (operations t)) 17) c.part.view_is in
    let depth = c.part.invariant.nested ∙ ap nesting c.part.view_is in
    record {
      counted = omega (arith, left, number, c.min-operations.ensures, c.loop-part.invariant.counted);
      nested = omega (arith, deep, depth, c.max-nesting.ensures, c.loop-part.invariant.nested);
      few = omega (arith, c.min-operations.ensures);
      shallow = omega (arith, c.max-nesting.ensures, c.loop-part.invariant.shallow, c.part.invariant.shallow);
    }

pub returns-then-operations-gt-MOST_OPERATIONS : goal.returns-then-operations-gt-MOST_OPERATIONS
returns-then-operations-gt-MOST_OPERATIONS g c =
    let all = length (all_operations (trees c.args.parts.items)) in
    let past : drop c.loop-part.part-index c.deref-part-items.result.now ≡ [] = drop_of_length-le c.deref-part-items.result.now c.loop-part-test.false in
    let counted = rw (past, c.deref-part-items.ensures.value) at c.loop-part.invariant.counted in
    let many : nat_le all MOST_OPERATIONS ≡ false = grind (arith, nat_tests, counted, c.if-operations-gt-MOST_OPERATIONS.true) in
    rw many refl

pub invariant_of-result : goal.invariant_of-result
invariant_of-result g c =
    let past : drop c.loop-part.part-index c.deref-part-items.result.now ≡ [] = drop_of_length-le c.deref-part-items.result.now c.loop-part-test.false in
    let counted = rw (past, c.deref-part-items.ensures.value) at c.loop-part.invariant.counted in
    let nested = rw (past, c.deref-part-items.ensures.value) at c.loop-part.invariant.nested in
    record {
      counted = omega (arith, counted, c.loop-part.invariant.few);
      nested = omega (arith, nested);
      shallow = c.loop-part.invariant.shallow;
    }

pub returns : goal.returns
returns g c =
    let all = length (all_operations (trees c.args.parts.items)) in
    let past : drop c.loop-part.part-index c.deref-part-items.result.now ≡ [] = drop_of_length-le c.deref-part-items.result.now c.loop-part-test.false in
    let counted = rw (past, c.deref-part-items.ensures.value) at c.loop-part.invariant.counted in
    let few : nat_le all MOST_OPERATIONS ≡ true = grind (arith, nat_tests, counted, c.if-operations-gt-MOST_OPERATIONS.false) in
    rw few refl
