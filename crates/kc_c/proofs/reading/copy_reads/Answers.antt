use Rattle.std.proofs.Common.{◌<◌, arith, length}
use Rattle.kc_c.proofs.Copying.{copied_more}
use Rattle.kc_c.specs.Reads.{read_told}
use Rattle.kc_c.proofs.reading.copy_reads.Goals as goal

pub loop-at-preserved : goal.loop-at-preserved
loop-at-preserved c =
    let lt : c.loop-at.at < length c.args.reads.now = omega (arith, c.loop-at-test.true, c.min-count.ensures) in
    let room : c.loop-at.at < length c.args.to.now = omega (arith, c.loop-at-test.true, c.min-count.ensures) in
    rw c.loop-at.invariant (copied_more read_told c.args.reads.now c.args.to.now c.loop-at.at (record { loc = record { 0 = 0 }; version = 0; value = 0 }) lt room)
