use Rattle.std.proofs.Common.{arith}
use Rattle.kc_calls.proofs.Parts.{is_parted, first_fits, behind_fits, ends, parted_meaning, alone_meaning, last_meaning, obeys_as}
use Rattle.kc_calls.proofs.calls.run_alternatives.Goals as goal

pub returns-then-one-ops-clause-law : goal.returns-then-one-ops-clause-law
returns-then-one-ops-clause-law g c = obeys_as _ _ _ _ _ _ _ (alone_meaning 3 c.args.ops.now c.cut_of-one.result c.cut_of-one.ensures.is c.if-one-ops.true) (omega arith) c.run.ensures.law

pub run-requires-then-two-behind_one-clause-within : goal.run-requires-then-two-behind_one-clause-within
run-requires-then-two-behind_one-clause-within g c =
    let p = is_parted c.cut_of-one.ensures.is c.if-one-ops.false c.split_at.ensures.front c.split_at.ensures.back in
    omega (arith, ends c.args.ops.now c.cut_of-one.result _ _ p, c.requires.within)

pub returns-then-two-behind_one-clause-law : goal.returns-then-two-behind_one-clause-law
returns-then-two-behind_one-clause-law g c =
    let p = is_parted c.cut_of-one.ensures.is c.if-one-ops.false c.split_at.ensures.front c.split_at.ensures.back in
    let alone = alone_meaning 2 c.split_at.result.1.now c.cut_of-two.result c.cut_of-two.ensures.is c.if-two-behind_one.true in
    obeys_as _ _ _ _ _ _ _ (parted_meaning c.args.ops.now c.cut_of-one.result _ _ p 2 _ alone) (omega (arith, ends c.args.ops.now c.cut_of-one.result _ _ p)) c.run-then-two-behind_one.ensures.law

pub run-requires-then-three-behind_two-clause-fit : goal.run-requires-then-three-behind_two-clause-fit
run-requires-then-three-behind_two-clause-fit g c =
    let p = is_parted c.cut_of-one.ensures.is c.if-one-ops.false c.split_at.ensures.front c.split_at.ensures.back in
    let q = is_parted c.cut_of-two.ensures.is c.if-two-behind_one.false c.split_at-2.ensures.front c.split_at-2.ensures.back in
    let behind = behind_fits c.args.ops.now c.cut_of-one.result _ _ p c.requires.fit in
    (first_fits c.args.ops.now c.cut_of-one.result _ _ p c.requires.fit, (first_fits c.split_at.result.1.now c.cut_of-two.result _ _ q behind, behind_fits c.split_at.result.1.now c.cut_of-two.result _ _ q behind))

pub run-requires-then-three-behind_two-clause-within : goal.run-requires-then-three-behind_two-clause-within
run-requires-then-three-behind_two-clause-within g c =
    let p = is_parted c.cut_of-one.ensures.is c.if-one-ops.false c.split_at.ensures.front c.split_at.ensures.back in
    let q = is_parted c.cut_of-two.ensures.is c.if-two-behind_one.false c.split_at-2.ensures.front c.split_at-2.ensures.back in
    omega (arith, ends c.args.ops.now c.cut_of-one.result _ _ p, ends c.split_at.result.1.now c.cut_of-two.result _ _ q, c.requires.within)

pub returns-then-three-behind_two-clause-law : goal.returns-then-three-behind_two-clause-law
returns-then-three-behind_two-clause-law g c =
    let p = is_parted c.cut_of-one.ensures.is c.if-one-ops.false c.split_at.ensures.front c.split_at.ensures.back in
    let q = is_parted c.cut_of-two.ensures.is c.if-two-behind_one.false c.split_at-2.ensures.front c.split_at-2.ensures.back in
    let alone = alone_meaning 1 c.split_at-2.result.1.now c.cut_of-three.result c.cut_of-three.ensures.is c.if-three-behind_two.true in
    let behind = parted_meaning c.split_at.result.1.now c.cut_of-two.result _ _ q 1 _ alone in
    obeys_as _ _ _ _ _ _ _ (parted_meaning c.args.ops.now c.cut_of-one.result _ _ p 2 _ behind) (omega (arith, ends c.args.ops.now c.cut_of-one.result _ _ p, ends c.split_at.result.1.now c.cut_of-two.result _ _ q)) c.run-then-three-behind_two.ensures.law

pub run-requires-2-clause-fit : goal.run-requires-2-clause-fit
run-requires-2-clause-fit g c =
    let p = is_parted c.cut_of-one.ensures.is c.if-one-ops.false c.split_at.ensures.front c.split_at.ensures.back in
    let q = is_parted c.cut_of-two.ensures.is c.if-two-behind_one.false c.split_at-2.ensures.front c.split_at-2.ensures.back in
    let r = is_parted c.cut_of-three.ensures.is c.if-three-behind_two.false c.split_at-3.ensures.front c.split_at-3.ensures.back in
    let behind = behind_fits c.args.ops.now c.cut_of-one.result _ _ p c.requires.fit in
    let last = behind_fits c.split_at.result.1.now c.cut_of-two.result _ _ q behind in
    (first_fits c.args.ops.now c.cut_of-one.result _ _ p c.requires.fit, (first_fits c.split_at.result.1.now c.cut_of-two.result _ _ q behind, (first_fits c.split_at-2.result.1.now c.cut_of-three.result _ _ r last, behind_fits c.split_at-2.result.1.now c.cut_of-three.result _ _ r last)))

pub run-requires-2-clause-within : goal.run-requires-2-clause-within
run-requires-2-clause-within g c =
    let p = is_parted c.cut_of-one.ensures.is c.if-one-ops.false c.split_at.ensures.front c.split_at.ensures.back in
    let q = is_parted c.cut_of-two.ensures.is c.if-two-behind_one.false c.split_at-2.ensures.front c.split_at-2.ensures.back in
    let r = is_parted c.cut_of-three.ensures.is c.if-three-behind_two.false c.split_at-3.ensures.front c.split_at-3.ensures.back in
    omega (arith, ends c.args.ops.now c.cut_of-one.result _ _ p, ends c.split_at.result.1.now c.cut_of-two.result _ _ q, ends c.split_at-2.result.1.now c.cut_of-three.result _ _ r, c.requires.within)

pub returns-clause-law : goal.returns-clause-law
returns-clause-law g c =
    let p = is_parted c.cut_of-one.ensures.is c.if-one-ops.false c.split_at.ensures.front c.split_at.ensures.back in
    let q = is_parted c.cut_of-two.ensures.is c.if-two-behind_one.false c.split_at-2.ensures.front c.split_at-2.ensures.back in
    let r = is_parted c.cut_of-three.ensures.is c.if-three-behind_two.false c.split_at-3.ensures.front c.split_at-3.ensures.back in
    let third = parted_meaning c.split_at-2.result.1.now c.cut_of-three.result _ _ r 0 _ (last_meaning c.split_at-3.result.1.now) in
    let behind = parted_meaning c.split_at.result.1.now c.cut_of-two.result _ _ q 1 _ third in
    obeys_as _ _ _ _ _ _ _ (parted_meaning c.args.ops.now c.cut_of-one.result _ _ p 2 _ behind) (omega (arith, ends c.args.ops.now c.cut_of-one.result _ _ p, ends c.split_at.result.1.now c.cut_of-two.result _ _ q, ends c.split_at-2.result.1.now c.cut_of-three.result _ _ r)) c.run-2.ensures.law
