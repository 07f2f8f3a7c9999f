use Rattle.std.proofs.Common.{◌≡◌, ◌+◌, ◌*◌, ◌<◌, ◌≤◌, ℕ, length, take, slice_index, sum, sum_by}
use Rattle.kc_history.specs.RecordsValue.{RecordsValue}
use Rattle.kc_history.specs.Counts.{putters, records_in}
use Rattle.kc_history.specs.declared.record.Record.{Record}
use Rattle.kc_model.specs.declared.footprint.TheConstants.{MOST}
use Rattle.kc_history.proofs.counting.count_all_puts.Given as goal

abbrev pub invariant-loop-list : goal.invariant-loop-list
invariant-loop-list l = record {
  counts : (k : ℕ) → k < length l.widths → slice_index l.widths k ≡ slice_index l.initial.widths k + sum_by (λ (v : RecordsValue). sum_by (λ (r : Record). putters k r.footprint.puts.items) v.items) (take l.list-index l.records);
  sum : sum l.widths ≤ sum l.initial.widths + MOST * records_in (take l.list-index l.records);
}
