use Rattle.std.proofs.Common.{◌≡◌, ◌≤◌, ◌++◌, [], drop, length}
use Rattle.std.specs.Prelude.{vec_len, vec_capacity}
use Rattle.kc_locked.specs.Locked.{free_view, shared_out}
use Rattle.kc_locked.specs.Passes.{passes_of}
use Rattle.kc_locked.proofs.store.deal.Given as goal

abbrev pub invariant-loop-i : goal.invariant-loop-i
invariant-loop-i l = record {
  table : l.first.table_id ≡ l.memory.table_id;
  me : l.first.me ≡ (free_view (shared_out l.i (drop l.i l.shares)), []);
  room : length l.shares ≤ vec_capacity l.passes;
  count : vec_len l.passes ≡ l.i;
  passes : l.passes.items ++ passes_of l.memory.table_id l.i (drop l.i l.shares) ≡ passes_of l.memory.table_id 0 l.shares;
}
