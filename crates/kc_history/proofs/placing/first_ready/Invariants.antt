use Rattle.std.proofs.Common.{ℕ, ◌<◌}
use Rattle.kc_history.specs.Counts.{PassesCounts}
use Rattle.kc_history.specs.Tested.{AllTested}
use Rattle.kc_model.specs.declared.footprint.Footprint.{Footprint}
use Rattle.kc_history.proofs.placing.first_ready.Given as goal

abbrev pub invariant-loop-thread : goal.invariant-loop-thread
invariant-loop-thread l = record {
  none : (u : ℕ) (f : Footprint) → u < l.thread → PassesCounts l.records l.next l.versions l.starts l.left u f → ⊥;
  known : AllTested l.records l.next l.versions l.starts l.left l.tested;
}
