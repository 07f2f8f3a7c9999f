use Rattle.std.proofs.Common.{All, length, slice_index, subst, inl, inr, arith}
use Rattle.kc_history.proofs.Passing.{puts_below, not_below, at_or_below, below_end}
use Rattle.kc_history.proofs.Placed.{tested_set}
use Rattle.kc_history.proofs.Totals.{foot_is, record_past, no_thread, same_record}
use Rattle.kc_history.specs.Counts.{PassesCounts}
use Rattle.kc_history.specs.Records.{record_print, puts_of, reads_of}
use Rattle.kc_history.specs.Tested.{FindsVersion, IsReadByOne}
use Rattle.kc_model.specs.declared.footprint.Footprint.{Footprint}
use Rattle.kc_history.proofs.placing.first_ready.Goals as goal
use Rattle.kc_history.proofs.placing.first_ready.Goals.{then-index-len+else-may_stand, else-index-len}

pub loop-thread-init : goal.loop-thread-init
loop-thread-init c = record { none = λ u f lt. absurd (omega arith); known = c.requires.tested }

pub reads-requires : goal.reads-requires
reads-requires c = (let a = c.if-index-len.true in let b = c.len.ensures in omega arith)

pub puts-requires : goal.puts-requires
puts-requires c = (let a = c.if-index-len.true in let b = c.len.ensures in omega arith)

pub may_stand-requires-clause-reads : goal.may_stand-requires-clause-reads
may_stand-requires-clause-reads c =
    let t = c.loop-thread.thread in
    let v = c.index-records-thread.result in
    let is = foot_is c.args.records.now t v (slice_index c.args.next.now t) c.loop-thread-test.true c.index-records-thread.is (let a = c.if-index-len.true in let b = c.len.ensures in omega arith) in
    rw c.reads.ensures.reads (c.requires.made t (slice_index c.args.next.now t) (record_print v.items (slice_index c.args.next.now t)) is).below

pub may_stand-requires-clause-puts : goal.may_stand-requires-clause-puts
may_stand-requires-clause-puts c =
    let t = c.loop-thread.thread in
    let v = c.index-records-thread.result in
    let is = foot_is c.args.records.now t v (slice_index c.args.next.now t) c.loop-thread-test.true c.index-records-thread.is (let a = c.if-index-len.true in let b = c.len.ensures in omega arith) in
    rw c.puts.ensures.puts (puts_below (length c.args.versions.now) (record_print v.items (slice_index c.args.next.now t)) (c.requires.made t (slice_index c.args.next.now t) (record_print v.items (slice_index c.args.next.now t)) is))

pub may_stand-requires-clause-tested : goal.may_stand-requires-clause-tested
may_stand-requires-clause-tested c =
    let t = c.loop-thread.thread in
    let v = c.index-records-thread.result in
    let is = foot_is c.args.records.now t v (slice_index c.args.next.now t) c.loop-thread-test.true c.index-records-thread.is (let a = c.if-index-len.true in let b = c.len.ensures in omega arith) in
    rw (c.reads.ensures.reads, c.puts.ensures.puts) (c.loop-thread.invariant.known t (record_print v.items (slice_index c.args.next.now t)) is)

pub returns-then-may_stand-clause-ready : goal.returns-then-may_stand-clause-ready
returns-then-may_stand-clause-ready c =
    let t = c.loop-thread.thread in
    let v = c.index-records-thread.result in
    let is = foot_is c.args.records.now t v (slice_index c.args.next.now t) c.loop-thread-test.true c.index-records-thread.is (let a = c.if-index-len.true in let b = c.len.ensures in omega arith) in
    let both = (rw (c.reads.ensures.reads, c.puts.ensures.puts) at c.may_stand.ensures.passes).0 c.if-may_stand.true in
    (c.loop-thread-test.true, ((record_print v.items (slice_index c.args.next.now t)), record { is = is; finds = both.0; alone = both.1 }), λ u f h. not_below t u (λ lt. c.loop-thread.invariant.none u f lt h))

pub returns-then-may_stand-clause-tested : goal.returns-then-may_stand-clause-tested
returns-then-may_stand-clause-tested c =
    let t = c.loop-thread.thread in
    let v = c.index-records-thread.result in
    let is = foot_is c.args.records.now t v (slice_index c.args.next.now t) c.loop-thread-test.true c.index-records-thread.is (let a = c.if-index-len.true in let b = c.len.ensures in omega arith) in
    tested_set c.args.records.now c.args.next.now c.args.versions.now c.args.starts.now c.args.left.now c.loop-thread.tested t c.may_stand.new.tested (record_print v.items (slice_index c.args.next.now t)) (let a = c.requires.room in let b = c.loop-thread-test.true in let d = c.loop-thread.auto.tested in omega arith) is c.loop-thread.invariant.known (rw (c.reads.ensures.reads, c.puts.ensures.puts) at c.may_stand.ensures.tested)

pub returns-clause-ready : goal.returns-clause-ready
returns-clause-ready c u f h = c.loop-thread.invariant.none u f (below_end u c.loop-thread.thread (length c.args.records.now) c.loop-thread-test.false (λ e. no_thread c.args.records.now u (slice_index c.args.next.now u) e f h.is)) h

pub returns-clause-tested : goal.returns-clause-tested
returns-clause-tested c = c.loop-thread.invariant.known

pub loop-thread-preserved : goal.loop-thread-preserved
loop-thread-preserved c =
    let t = c.loop-thread.thread in
    elim c.if-index-len.branch [
      | then-index-len+else-may_stand w ↦
          let v = c.index-records-thread.result in
          let is = foot_is c.args.records.now t v (slice_index c.args.next.now t) c.loop-thread-test.true c.index-records-thread.is (let a = w.if-index-len.true in let b = c.len.ensures in omega arith) in
          record {
            none = λ u f lt h. elim (at_or_below t u lt) [
              | inl below ↦ c.loop-thread.invariant.none u f below h
              | inr e ↦
                  let g : PassesCounts c.args.records.now c.args.next.now c.args.versions.now c.args.starts.now c.args.left.now t f = subst (λ u. PassesCounts c.args.records.now c.args.next.now c.args.versions.now c.args.starts.now c.args.left.now u f) e h in
                  let same = same_record c.args.records.now t (slice_index c.args.next.now t) f (record_print v.items (slice_index c.args.next.now t)) g.is is in
                  let finds : All (FindsVersion c.args.versions.now) (reads_of v.items (slice_index c.args.next.now t)) = subst (λ (f : Footprint). All (FindsVersion c.args.versions.now) f.reads.items) same g.finds in
                  let alone : All (IsReadByOne c.args.versions.now c.args.starts.now c.args.left.now) (puts_of v.items (slice_index c.args.next.now t)) = subst (λ (f : Footprint). All (IsReadByOne c.args.versions.now c.args.starts.now c.args.left.now) f.puts.items) same g.alone in
                  let yes = (rw (w.reads.ensures.reads, w.puts.ensures.puts) at w.may_stand.ensures.passes).1 (finds, alone) in
                  cc (yes, w.if-may_stand.false)
            ];
            known = rw w.tested-is (tested_set c.args.records.now c.args.next.now c.args.versions.now c.args.starts.now c.args.left.now c.loop-thread.tested t w.may_stand.new.tested (record_print v.items (slice_index c.args.next.now t)) (let a = c.requires.room in let b = c.loop-thread-test.true in let d = c.loop-thread.auto.tested in omega arith) is c.loop-thread.invariant.known (rw (w.reads.ensures.reads, w.puts.ensures.puts) at w.may_stand.ensures.tested));
          }
      | else-index-len w ↦ record {
        none = λ u f lt h. elim (at_or_below t u lt) [
          | inl below ↦ c.loop-thread.invariant.none u f below h
          | inr e ↦
              let g : PassesCounts c.args.records.now c.args.next.now c.args.versions.now c.args.starts.now c.args.left.now t f = subst (λ u. PassesCounts c.args.records.now c.args.next.now c.args.versions.now c.args.starts.now c.args.left.now u f) e h in
              record_past c.args.records.now t c.index-records-thread.result (slice_index c.args.next.now t) c.loop-thread-test.true c.index-records-thread.is (let a = w.if-index-len.false in let b = c.len.ensures in omega arith) f g.is
        ];
        known = rw w.tested-is c.loop-thread.invariant.known;
      }
    ]
