use Rattle.std.proofs.Common.{◌≡◌, ◌-◌}
use Rattle.kc_xt.specs.Steps.{Goes}
use Rattle.kc_base_tests.specs.Worked.{clears}
use Rattle.kc_base_tests.proofs.xt.clear_range.Given as goal

-- so far the program has come to the clearing of what is left
abbrev pub invariant-loop-l : goal.invariant-loop-l
invariant-loop-l g a = record {
  goes : Goes g.P.Peek.peek_gives (clears a.first (a.end - a.first)) a.fn.xt (clears a.l (a.end - a.l)) a.xt;
  size : g.P.Peek.locations a.xt.peek ≡ g.P.Peek.locations a.fn.xt.peek;
}
