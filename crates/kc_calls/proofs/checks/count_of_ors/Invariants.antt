use Rattle.std.proofs.Common.{◌≡◌, ◌≤◌, ◌+◌, drop}
use Rattle.kc_calls.specs.Cut.{ors}
use Rattle.kc_calls.proofs.checks.count_of_ors.Given as goal

-- the rest has the others
abbrev pub invariant-loop-op : goal.invariant-loop-op
invariant-loop-op l = record {
  few : l.count ≤ l.op-index;
  same : l.count + ors (drop l.op-index l.ops) ≡ ors l.ops;
}
