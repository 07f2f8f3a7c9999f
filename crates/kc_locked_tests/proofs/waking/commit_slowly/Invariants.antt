use Rattle.std.proofs.Common.{◌≡◌, ◌≤◌, length}
use Rattle.kc_loc.specs.Meaning.{LocIsFit, loc_end}
use Rattle.kc_locked_tests.proofs.waking.commit_slowly.Given as goal

abbrev pub invariant-loop-pass : goal.invariant-loop-pass
invariant-loop-pass g l = (l.pass.table ≡ l.store.table) × LocIsFit l.slow.operation × (loc_end l.slow.operation ≤ length l.store.opening)

abbrev pub decreases-loop-pass : goal.decreases-loop-pass
decreases-loop-pass g l = l.pass.left
