use Rattle.std.proofs.Common.{take}
use Rattle.kc_check.specs.Reads.{HaveSpace}
use Rattle.kc_check.specs.Replays.{commands_of}
use Rattle.kc_check.proofs.opening.spaces.Given as goal

abbrev pub invariant-loop-i : goal.invariant-loop-i
invariant-loop-i l = HaveSpace (commands_of (take l.i l.threads)) l.all.items
