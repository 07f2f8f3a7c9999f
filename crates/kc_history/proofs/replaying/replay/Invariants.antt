use Rattle.std.proofs.Common.{◌≡◌, length}
use Rattle.kc_history.proofs.Applied.{Comes}
use Rattle.kc_history.specs.Records.{footprint_at, lists_of}
use Rattle.kc_model.specs.Store.{store_of}
use Rattle.kc_history.proofs.replaying.replay.Given as goal

abbrev pub invariant-loop-i : goal.invariant-loop-i
invariant-loop-i l = Comes (footprint_at (lists_of l.records)) l.order (store_of l.fn.store) (store_of l.store) l.i × (length l.store ≡ length l.fn.store)
