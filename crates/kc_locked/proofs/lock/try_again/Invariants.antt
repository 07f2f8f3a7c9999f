use Rattle.std.proofs.Common.{◌≡◌}
use Rattle.kc_locked.proofs.lock.try_again.Given as goal

abbrev pub invariant-loop-pauses : goal.invariant-loop-pauses
invariant-loop-pauses g l = (l.token.table_id ≡ l.initial.token.table_id) × (l.token.me ≡ l.initial.token.me)
