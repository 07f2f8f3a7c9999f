use Rattle.std.proofs.Common.{◌≡◌, ◌+◌, length, sum_by, take}
use Rattle.std.specs.Global.{Vec}
use Rattle.kc_script_bundle.specs.declared.operation.Command.{Command}
use Rattle.kc_top.proofs.settling.room_for.Given as goal

abbrev pub invariant-loop-i : goal.invariant-loop-i
invariant-loop-i l = l.records ≡ sum_by (λ (v : Vec Command). length v.items + 1) (take l.i l.threads)
