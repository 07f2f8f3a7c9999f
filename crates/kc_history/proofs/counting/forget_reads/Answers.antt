use Rattle.std.proofs.Common.{◌<◌, length}
use Rattle.kc_history.proofs.Tallies.{counted_less, still_in, same_slots}
use Rattle.kc_history.specs.Counts.{Slots}
use Rattle.kc_model.specs.declared.footprint.Seen.{Seen}
use Rattle.kc_history.proofs.counting.forget_reads.Goals as goal

abbrev zero_seen : Seen
zero_seen = record { loc = record { 0 = 0 }; version = 0; value = 0 }

pub overflow_sub-left : goal.overflow_sub-left
overflow_sub-left c =
    let i = c.loop-read.read-index in
    let rs = c.args.reads.now in
    let lt : i < length rs = c.loop-read-test.true in
    still_in c.args.starts.now c.loop-read.left c.args.left.now rs i zero_seen lt (c.requires.below i zero_seen lt) (c.requires.stands i zero_seen lt) c.loop-read.invariant c.requires.counted

pub loop-read-preserved : goal.loop-read-preserved
loop-read-preserved c =
    let i = c.loop-read.read-index in
    let rs = c.args.reads.now in
    let lt : i < length rs = c.loop-read-test.true in
    let slots : Slots c.args.starts.now (length c.loop-read.left) = same_slots c.args.starts.now (length c.args.left.now) (length c.loop-read.left) c.loop-read.auto.left c.requires.slots in
    λ x v xl xv. counted_less c.args.starts.now c.loop-read.left c.args.left.now slots rs i zero_seen lt (c.requires.below i zero_seen lt) (c.requires.stands i zero_seen lt) x v xl xv (c.loop-read.invariant x v xl xv) (c.requires.counted x v xl xv)
