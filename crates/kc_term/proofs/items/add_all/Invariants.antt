use Rattle.std.proofs.Common.{◌≡◌, ◌++◌, take}
use Rattle.kc_term.proofs.items.add_all.Given as goal

abbrev pub invariant-loop-i : goal.invariant-loop-i
invariant-loop-i l = l.items ≡ l.initial.items ++ take l.i l.more
