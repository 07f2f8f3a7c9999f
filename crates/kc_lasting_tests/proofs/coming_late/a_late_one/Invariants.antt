use Rattle.std.proofs.Common.{◌≡◌}
use Rattle.kc_lasting.specs.Told.{standing_of}
use Rattle.kc_lasting_tests.proofs.coming_late.a_late_one.Given as goal

abbrev pub invariant-loop-before : goal.invariant-loop-before
invariant-loop-before g l = (standing_of l.late).roll ≡ (standing_of l.busy).roll
