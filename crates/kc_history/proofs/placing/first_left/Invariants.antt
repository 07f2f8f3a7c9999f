use Rattle.std.proofs.Common.{◌≡◌, ◌<◌, ℕ, Some, slice_index}
use Rattle.kc_history.specs.Counts.{foot_at}
use Rattle.kc_model.specs.declared.footprint.Footprint.{Footprint}
use Rattle.kc_history.proofs.placing.first_left.Given as goal

abbrev pub invariant-loop-thread : goal.invariant-loop-thread
invariant-loop-thread l = (u k : ℕ) (f : Footprint) → u < l.thread → foot_at l.records u k ≡ Some f → k < slice_index l.next u
