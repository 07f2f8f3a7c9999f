use Rattle.std.proofs.Common.{◌≡◌, length}
use Rattle.std.specs.Prelude.{All}
use Rattle.kc_run.specs.Run.{CanRunAll}
use Rattle.kc_run_tests.proofs.running.team.Given as goal

abbrev pub invariant-loop-i : goal.invariant-loop-i
invariant-loop-i l = (length l.team.items ≡ l.i) × All (λ w. CanRunAll 64 w.items) l.team.items
