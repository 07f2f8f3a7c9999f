use Rattle.std.proofs.Common.{◌+◌, ◌<◌, length, slice_index, slice_index_or, arith, ap, sym, ◌∙◌}
use Rattle.kc_history.proofs.Tallies.{counted_more, uncounted, bumped_most, same_slots, slot_fits}
use Rattle.kc_history.specs.Counts.{slot, Slots}
use Rattle.kc_model.specs.declared.footprint.Seen.{Seen}
use Rattle.kc_history.proofs.counting.count_reads.Goals as goal
use Rattle.kc_history.proofs.counting.count_reads.Goals.{then-read-width, else-read-width}

zero_seen : Seen
zero_seen = record { loc = record { 0 = 0 }; version = 0; value = 0 }

pub loop-read-preserved : goal.loop-read-preserved
unfolding zero_seen
loop-read-preserved c =
    let i = c.loop-read.read-index in
    let rs = c.args.reads.now in
    let lt : i < length rs = c.loop-read-test.true in
    let below = c.requires.below i zero_seen lt in
    elim c.if-read-width.branch [
      | then-read-width w ↦
          let slots : Slots c.args.starts.now (length c.loop-read.left) = same_slots c.args.starts.now (length c.args.left.now) (length c.loop-read.left) c.loop-read.auto.left c.requires.slots in
          record {
            counts = λ x v xl xv. rw w.left-is (counted_more c.args.starts.now c.loop-read.left c.args.left.now slots rs i zero_seen lt below w.if-read-width.true x v xl xv (c.loop-read.invariant.counts x v xl xv));
            most = rw w.left-is (bumped_most c.loop-read.left c.args.left.now (slot c.args.starts.now (slice_index_or rs i zero_seen).loc.0 (slice_index_or rs i zero_seen).version) i c.loop-read.invariant.most (slot_fits c.args.starts.now (length c.loop-read.left) slots (slice_index_or rs i zero_seen).loc.0 (slice_index_or rs i zero_seen).version below w.if-read-width.true));
          }
      | else-read-width w ↦
          record {
            counts = λ x v xl xv. rw w.left-is (c.loop-read.invariant.counts x v xl xv ∙ ap (λ n. slice_index c.args.left.now (slot c.args.starts.now x v) + n) (sym (uncounted c.args.starts.now rs i zero_seen lt w.if-read-width.false x v xv)));
            most = rw w.left-is (λ k. let a = c.loop-read.invariant.most k in omega arith);
          }
    ]
