use Rattle.std.proofs.Common.{◌≡◌, drop, max}
use Rattle.kc_term.specs.Meaning.{greatest_end}
use Rattle.kc_term.proofs.row.row_bound.Given as goal

-- the bound of those seen and the bound of those left are that of all
abbrev pub invariant-loop-operation : goal.invariant-loop-operation
invariant-loop-operation g l = max l.most (greatest_end g.O.Transact.end (drop l.operation-index l.ops)) ≡ greatest_end g.O.Transact.end l.ops
