use Rattle.std.proofs.Common.{take}
use Rattle.kc_run.specs.Jobs.{Rooms}
use Rattle.kc_run.proofs.job.rooms.Given as goal

abbrev pub invariant-loop-i : goal.invariant-loop-i
invariant-loop-i l = Rooms l.limit (take l.i l.threads) l.all.items
