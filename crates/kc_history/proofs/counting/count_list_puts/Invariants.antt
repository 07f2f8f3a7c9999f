use Rattle.std.proofs.Common.{◌≡◌, ◌+◌, ◌*◌, ◌<◌, ◌≤◌, ℕ, length, take, slice_index, sum, sum_by}
use Rattle.kc_history.specs.Counts.{putters}
use Rattle.kc_model.specs.declared.footprint.TheConstants.{MOST}
use Rattle.kc_history.specs.declared.record.Record.{Record}
use Rattle.kc_history.proofs.counting.count_list_puts.Given as goal

abbrev pub invariant-loop-i : goal.invariant-loop-i
invariant-loop-i l = record {
  counts : (k : ℕ) → k < length l.widths → slice_index l.widths k ≡ slice_index l.initial.widths k + sum_by (λ (r : Record). putters k r.footprint.puts.items) (take l.i l.list.items);
  sum : sum l.widths ≤ sum l.initial.widths + MOST * l.i;
}
