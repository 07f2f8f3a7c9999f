use Rattle.std.proofs.Common.{slice_index}
use Rattle.kc_history.specs.Counts.{sum_unplaced}
use Rattle.kc_history.specs.Tested.{Placing}
use Rattle.kc_history.proofs.placing.place_all.Given as goal

abbrev pub invariant-loop-thread : goal.invariant-loop-thread
invariant-loop-thread l = Placing l.records l.order l.placed l.next l.versions l.starts l.left l.tested

abbrev pub decreases-loop-thread : goal.decreases-loop-thread
decreases-loop-thread l = sum_unplaced (λ _. 1) l.records (slice_index l.next)
