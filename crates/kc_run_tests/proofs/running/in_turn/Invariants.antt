use Rattle.std.proofs.Common.{◌≡◌, ◌+◌, length}
use Rattle.std.specs.Prelude.{All}
use Rattle.kc_run.specs.Run.{CanRun}
use Rattle.kc_run_tests.proofs.running.in_turn.Given as goal

abbrev pub invariant-loop-i : goal.invariant-loop-i
invariant-loop-i l = (length l.commands.items ≡ l.i + l.i) × All (CanRun 64) l.commands.items
