use Rattle.std.proofs.Common.{◌≤◌, drop}
use Rattle.kc_calls.specs.Fed.{AreFed}
use Rattle.kc_calls.proofs.checks.are_fed.Given as goal

-- where those left are fed so, all are, and no other way
abbrev pub invariant-loop-op : goal.invariant-loop-op
invariant-loop-op l = record {
  few : l.before ≤ l.op-index;
  all : AreFed l.before (drop l.op-index l.ops) → AreFed 0 l.ops;
  left : AreFed 0 l.ops → AreFed l.before (drop l.op-index l.ops);
}
