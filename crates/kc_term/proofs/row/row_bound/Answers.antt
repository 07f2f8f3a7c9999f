use Rattle.std.proofs.Common.{arith}
use Rattle.kc_term.proofs.Rows.{row-end-cons}
use Rattle.kc_term.proofs.row.row_bound.Goals as goal

pub loop-operation-preserved : goal.loop-operation-preserved
loop-operation-preserved g c =
    let e = row-end-cons g.O.Transact.end c.args.ops.now c.loop-operation.operation-index c.operation-item.result c.loop-operation-test.true c.operation-item.is in
    omega (arith, e, c.max-most.ensures, c.bound.ensures, c.loop-operation.invariant)
