use Rattle.std.proofs.Common.{All, take}
use Rattle.kc_history.specs.Tested.{FindsVersion}
use Rattle.kc_history.proofs.placing.count_found.Given as goal

abbrev pub invariant-loop-i : goal.invariant-loop-i
invariant-loop-i l = All (FindsVersion l.versions) (take l.i l.reads)
