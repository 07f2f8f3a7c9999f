use Rattle.std.proofs.Common.{◌≡◌, ◌+◌, ◌<◌, ◌≤◌, ℕ, length, take, slice_index}
use Rattle.kc_history.specs.Counts.{readers, slot, width}
use Rattle.kc_history.proofs.counting.count_reads.Given as goal

abbrev pub invariant-loop-read : goal.invariant-loop-read
invariant-loop-read l = record {
  counts : (x v : ℕ) → x + 1 < length l.starts → v < width l.starts x → slice_index l.left (slot l.starts x v) ≡ slice_index l.initial.left (slot l.starts x v) + readers x v (take l.read-index l.reads);
  most : (k : ℕ) → slice_index l.left k ≤ slice_index l.initial.left k + l.read-index;
}
