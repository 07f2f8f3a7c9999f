use Rattle.std.proofs.Common.{arith}
use Rattle.kc_history.proofs.Kept.{print_more}
use Rattle.kc_history.specs.Counts.{readers_of}
use Rattle.kc_history.proofs.counting.count_list_reads.Goals as goal

pub loop-i-preserved : goal.loop-i-preserved
loop-i-preserved c = record {
  counts = λ x v xl xv.
      let a = rw c.reads.ensures.reads at (c.count_reads.ensures.counts x v xl xv) in
      let b = c.loop-i.invariant.counts x v xl xv in
      let d = print_more (readers_of x v) c.args.list.now.items c.loop-i.i (let a = c.len-i-end.ensures in let b = c.loop-i-test.true in omega arith) in
      omega arith;
  most = λ k.
      let a = c.count_reads.ensures.most k in
      let b = c.loop-i.invariant.most k in
      let d = c.reads.ensures.few in
      omega arith;
}
