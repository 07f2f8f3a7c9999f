use Rattle.std.proofs.Common.{◌≡◌, ◌+◌, ◌*◌, ◌<◌, ◌≤◌, ℕ, length, take, slice_index, sum_by}
use Rattle.kc_history.specs.Counts.{readers, slot, width}
use Rattle.kc_model.specs.declared.footprint.TheConstants.{MOST}
use Rattle.kc_history.specs.declared.record.Record.{Record}
use Rattle.kc_history.proofs.counting.count_list_reads.Given as goal

abbrev pub invariant-loop-i : goal.invariant-loop-i
invariant-loop-i l = record {
  counts : (x v : ℕ) → x + 1 < length l.starts → v < width l.starts x → slice_index l.left (slot l.starts x v) ≡ slice_index l.initial.left (slot l.starts x v) + sum_by (λ (r : Record). readers x v r.footprint.reads.items) (take l.i l.list.items);
  most : (k : ℕ) → slice_index l.left k ≤ slice_index l.initial.left k + MOST * l.i;
}
