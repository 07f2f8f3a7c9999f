use Rattle.std.proofs.Common.{◌≡◌, ◌+◌, length}
use Rattle.kc_model.specs.declared.footprint.TheConstants.{MOST}
use Rattle.kc_base_tests.proofs.xt.the_line_past_the_most_is_too_large.Given as goal

abbrev pub invariant-loop-l : goal.invariant-loop-l
invariant-loop-l g l = length l.xt.peek ≡ MOST + 1
