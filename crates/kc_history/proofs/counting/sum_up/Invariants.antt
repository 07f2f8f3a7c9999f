use Rattle.std.proofs.Common.{◌≡◌, ◌<◌, ◌≤◌, ℕ, take, slice_index, sum}
use Rattle.kc_history.proofs.counting.sum_up.Given as goal

abbrev pub invariant-loop-width : goal.invariant-loop-width
invariant-loop-width l = record {
  so_far : l.start ≡ sum (take l.width-index l.fn.widths);
  done : (k : ℕ) → k < l.width-index → slice_index l.width-items k ≡ sum (take k l.fn.widths);
  rest : (k : ℕ) → l.width-index ≤ k → slice_index l.width-items k ≡ slice_index l.fn.widths k;
}
