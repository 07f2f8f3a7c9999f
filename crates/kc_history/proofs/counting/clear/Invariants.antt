use Rattle.std.proofs.Common.{◌≡◌, ℕ, length, slice_index, vec_capacity}
use Rattle.kc_history.proofs.counting.clear.Given as goal

abbrev pub invariant-loop : goal.invariant-loop
invariant-loop l = record {
  each : (k : ℕ) → slice_index l.counts.items k ≡ 0;
  size : length l.counts.items ≡ l.counter;
  capacity : vec_capacity l.counts ≡ vec_capacity l.fn.counts;
}
