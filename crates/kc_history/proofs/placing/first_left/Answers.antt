use Rattle.std.proofs.Common.{◌≡◌, ◌<◌, ◌≤◌, ℕ, length, slice_index, Some, subst, sym, inl, inr, arith}
use Rattle.kc_history.proofs.Opening.{left_at, none_left_at}
use Rattle.kc_history.proofs.Passing.{at_or_below, below_end}
use Rattle.kc_history.proofs.Totals.{no_thread}
use Rattle.kc_history.specs.Counts.{foot_at}
use Rattle.kc_history.proofs.placing.first_left.Goals as goal

pub returns-then-next-thread : goal.returns-then-next-thread
returns-then-next-thread c = (
  c.loop-thread-test.true,
  record {
    left = left_at c.args.records.now c.loop-thread.thread c.index-records-thread.result (slice_index c.args.next.now c.loop-thread.thread) c.loop-thread-test.true c.index-records-thread.is (let a = c.if-next-thread.true in let b = c.len.ensures in omega arith);
    before = c.loop-thread.invariant;
  },
)

pub loop-thread-preserved : goal.loop-thread-preserved
loop-thread-preserved c u k f lt is = elim (at_or_below c.loop-thread.thread u lt) [
  | inl below ↦ c.loop-thread.invariant u k f below is
  | inr e ↦
      let past : length c.index-records-thread.result.items ≤ slice_index c.args.next.now u = (let a = c.if-next-thread.false in let b = c.len.ensures in subst (λ t. length c.index-records-thread.result.items ≤ slice_index c.args.next.now t) (sym e) (omega arith)) in
      subst (λ (t : ℕ). length c.index-records-thread.result.items ≤ slice_index c.args.next.now t → k < slice_index c.args.next.now t) (sym e)
      (λ past. none_left_at c.args.records.now c.loop-thread.thread c.index-records-thread.result (slice_index c.args.next.now c.loop-thread.thread) k f c.loop-thread-test.true c.index-records-thread.is past (subst (λ t. foot_at c.args.records.now t k ≡ Some f) e is)) past
]

pub returns : goal.returns
returns c u k f is = c.loop-thread.invariant u k f (below_end u c.loop-thread.thread (length c.args.records.now) c.loop-thread-test.false (λ e. no_thread c.args.records.now u k e f is)) is
