use Rattle.std.proofs.Common.{◌<◌, length, arith}
use Rattle.kc_history.proofs.Kept.{print_more}
use Rattle.kc_history.specs.Counts.{putters_of}
use Rattle.kc_history.proofs.counting.count_list_puts.Goals as goal

pub loop-i-preserved : goal.loop-i-preserved
loop-i-preserved c = record {
  counts = λ k lt.
      let w = c.count_puts.auto.widths in
      let here : k < length c.loop-i.widths = omega arith in
      let a = rw c.puts.ensures.puts at (c.count_puts.ensures.counts k here) in
      let b = c.loop-i.invariant.counts k here in
      let d = print_more (putters_of k) c.args.list.now.items c.loop-i.i (let a = c.len-i-end.ensures in let b = c.loop-i-test.true in omega arith) in
      omega arith;
  sum =
      let a = c.count_puts.ensures.sum in
      let b = c.loop-i.invariant.sum in
      let d = c.puts.ensures.few in
      omega arith;
}
