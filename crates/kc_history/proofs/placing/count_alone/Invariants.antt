use Rattle.std.proofs.Common.{All, take}
use Rattle.kc_history.specs.Tested.{IsReadByOne}
use Rattle.kc_history.proofs.placing.count_alone.Given as goal

abbrev pub invariant-loop-i : goal.invariant-loop-i
invariant-loop-i l = All (IsReadByOne l.versions l.starts l.left) (take l.i l.puts)
