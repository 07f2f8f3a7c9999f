use Rattle.std.proofs.Common.{◌≡◌, length}
use Rattle.kc_model.specs.Store.{store_of}
use Rattle.kc_check.proofs.Walks.{KeptTo}
use Rattle.kc_check.specs.Replays.{commands_of}
use Rattle.kc_check.specs.Walks.{lines_in}
use Rattle.kc_check.proofs.walking.walk.Given as goal

abbrev pub invariant-loop-i : goal.invariant-loop-i
invariant-loop-i l = record {
  so_far : KeptTo l.limit (commands_of l.threads) (lines_in l.text l.replies) (store_of l.fn.store) l.places l.i (store_of l.store) l.records;
  size : length l.store ≡ length l.fn.store;
}
