use Rattle.std.proofs.Common.{◌≡◌, ◌≤◌, vec_len, vec_capacity}
use Rattle.kc_text_tests.proofs.threads.pool_of.Given as goal
use Rattle.kc_text_tests.specs.declared.threads.TheConstants.{TEXTS}

abbrev pub invariant-loop-i : goal.invariant-loop-i
invariant-loop-i l = (vec_len l.list ≡ l.i) × (TEXTS ≤ vec_capacity l.list)
