use Rattle.std.proofs.Common.{◌≡◌, ℕ, take, slice_index}
use Rattle.kc_history.specs.Order.{version_after}
use Rattle.kc_model.specs.Footprint.{put_at}
use Rattle.kc_history.proofs.placing.raise.Given as goal

abbrev pub invariant-loop-put : goal.invariant-loop-put
invariant-loop-put l = (k : ℕ) → slice_index l.versions k ≡ version_after (put_at (take l.put-index l.puts) k) (slice_index l.initial.versions k)
