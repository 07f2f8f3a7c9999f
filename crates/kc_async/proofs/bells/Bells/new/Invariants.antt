use Rattle.std.proofs.Common.{◌<◌, length}
use Rattle.kc_async.proofs.bells.Bells.new.Given as goal

abbrev pub invariant-loop : goal.invariant-loop
invariant-loop l = 0 < length l.bells.items
