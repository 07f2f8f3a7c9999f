use Rattle.kc_lasting.proofs.Gathering.{HasTaken}
use Rattle.kc_lasting.specs.Told.{standing_of}
use Rattle.kc_lasting.proofs.handle.LastingCaller.take_all_in.Given as goal

abbrev pub invariant-loop-at : goal.invariant-loop-at
invariant-loop-at g l = HasTaken (standing_of l.fn.self) (standing_of l.self) l.at l.fn.others l.others
