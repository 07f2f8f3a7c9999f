use Rattle.std.proofs.Common.{◌<◌, ℕ, length, sum_by, arith}
use Rattle.kc_history.specs.RecordsValue.{RecordsValue}
use Rattle.kc_history.proofs.Tallies.{item_more}
use Rattle.kc_history.specs.Counts.{putters}
use Rattle.kc_history.specs.declared.record.Record.{Record}
use Rattle.kc_history.proofs.counting.count_all_puts.Goals as goal

pub loop-list-preserved : goal.loop-list-preserved
loop-list-preserved c =
    let i = c.loop-list.list-index in
    let vs = c.args.records.now in
    let v = c.list-item.result in
    record {
      counts = λ k lt.
          let G : Record → ℕ = λ r. putters k r.footprint.puts.items in
          let F : RecordsValue → ℕ = λ v. sum_by G v.items in
          let w = c.count_list_puts.auto.widths in
          let lt2 : k < length c.loop-list.widths = omega arith in
          let a = c.count_list_puts.ensures.counts k lt2 in
          let b = c.loop-list.invariant.counts k lt2 in
          let d = item_more F vs i v c.loop-list-test.true c.list-item.is in
          omega arith;
      sum =
          let L : RecordsValue → ℕ = λ v. length v.items in
          let d = item_more L vs i v c.loop-list-test.true c.list-item.is in
          omega arith;
    }
