use Rattle.std.proofs.Common.{◌≡◌, ◌+◌, ◌<◌, ℕ, length, take, slice_index, sum}
use Rattle.kc_history.specs.Counts.{putters}
use Rattle.kc_history.proofs.counting.count_puts.Given as goal

abbrev pub invariant-loop-put : goal.invariant-loop-put
invariant-loop-put l = record {
  counts : (k : ℕ) → k < length l.widths → slice_index l.widths k ≡ slice_index l.initial.widths k + putters k (take l.put-index l.puts);
  sum : sum l.widths ≡ sum l.initial.widths + l.put-index;
}
