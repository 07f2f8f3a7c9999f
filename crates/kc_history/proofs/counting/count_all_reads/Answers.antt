use Rattle.std.proofs.Common.{ℕ, sum_by, arith, length}
use Rattle.kc_history.specs.RecordsValue.{RecordsValue}
use Rattle.kc_history.proofs.Tallies.{item_more, item_fits}
use Rattle.kc_history.specs.Counts.{readers}
use Rattle.kc_history.specs.declared.record.Record.{Record}
use Rattle.kc_history.proofs.counting.count_all_reads.Goals as goal

pub count_list_reads-requires-clause-room : goal.count_list_reads-requires-clause-room
count_list_reads-requires-clause-room c k =
    let L : RecordsValue → ℕ = λ v. length v.items in
    let d = item_fits L c.args.records.now c.loop-list.list-index c.list-item.result c.loop-list-test.true c.list-item.is in
    let a = c.loop-list.invariant.most k in
    let b = c.requires.room k in
    omega arith

pub loop-list-preserved : goal.loop-list-preserved
loop-list-preserved c =
    let i = c.loop-list.list-index in
    let vs = c.args.records.now in
    let v = c.list-item.result in
    record {
      counts = λ x y xl yl.
          let G : Record → ℕ = λ r. readers x y r.footprint.reads.items in
          let F : RecordsValue → ℕ = λ v. sum_by G v.items in
          let a = c.count_list_reads.ensures.counts x y xl yl in
          let b = c.loop-list.invariant.counts x y xl yl in
          let d = item_more F vs i v c.loop-list-test.true c.list-item.is in
          omega arith;
      most = λ k.
          let L : RecordsValue → ℕ = λ v. length v.items in
          let d = item_more L vs i v c.loop-list-test.true c.list-item.is in
          let a = c.count_list_reads.ensures.most k in
          let b = c.loop-list.invariant.most k in
          omega arith;
    }
