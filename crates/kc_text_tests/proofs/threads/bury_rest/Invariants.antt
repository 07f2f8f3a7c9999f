use Rattle.std.proofs.Common.{◌≡◌}
use Rattle.kc_text_tests.proofs.threads.bury_rest.Given as goal

abbrev pub invariant-loop-i : goal.invariant-loop-i
invariant-loop-i g l = l.caller.of ≡ l.shared.store
