use Rattle.std.proofs.Common.{◌≡◌, true, drop}
use Rattle.kc_check.proofs.Spaced.{are_spaced}
use Rattle.kc_check.proofs.reading.are_spaced.Given as goal

abbrev pub invariant-loop-i : goal.invariant-loop-i
invariant-loop-i l = are_spaced true l.text ≡ are_spaced l.begins (drop l.i l.text)
