use Rattle.std.proofs.Common.{◌≡◌}
use Rattle.kc_lasting.specs.Told.{standing_of}
use Rattle.kc_uses_lasting.proofs.queue_numbers.Given as goal

abbrev pub invariant-loop-number : goal.invariant-loop-number
invariant-loop-number g l = (standing_of l.handle).roll ≡ (standing_of l.fn.handle).roll
