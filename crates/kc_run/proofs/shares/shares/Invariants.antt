use Rattle.std.proofs.Common.{◌≡◌, take}
use Rattle.kc_run.specs.Shares.{shares_of}
use Rattle.kc_run.proofs.shares.shares.Given as goal

abbrev pub invariant-loop-i : goal.invariant-loop-i
invariant-loop-i l = l.shares.items ≡ shares_of (take l.i l.threads)
