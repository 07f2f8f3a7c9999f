use Rattle.std.proofs.Common.{drop}
use Rattle.kc_calls.specs.Meaning.{IsOperation}
use Rattle.kc_term.specs.Fit.{Each}
use Rattle.kc_calls.proofs.checks.are_each_operations.Given as goal

-- where those left are operations, all are, and no other way
abbrev pub invariant-loop-op : goal.invariant-loop-op
invariant-loop-op l = record {
  all : Each (IsOperation l.locations) (drop l.op-index l.ops) → Each (IsOperation l.locations) l.ops;
  left : Each (IsOperation l.locations) l.ops → Each (IsOperation l.locations) (drop l.op-index l.ops);
}
