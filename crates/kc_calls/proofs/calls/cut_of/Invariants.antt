use Rattle.std.proofs.Common.{◌≡◌, ◌≤◌, ◌+◌, ◌-◌, drop, length}
use Rattle.kc_calls.specs.Cut.{before_or, cut}
use Rattle.kc_calls.proofs.calls.cut_of.Given as goal

abbrev pub invariant-loop-at : goal.invariant-loop-at
invariant-loop-at l = record {
  within : l.at ≤ length l.ops;
  same : l.at + before_or (drop l.at l.ops) ≡ cut l.ops;
}

abbrev pub decreases-loop-at : goal.decreases-loop-at
decreases-loop-at l = length l.ops - l.at
