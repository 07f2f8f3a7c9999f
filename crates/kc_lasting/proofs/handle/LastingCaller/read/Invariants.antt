use Rattle.std.proofs.Common.{◌≡◌}
use Rattle.kc_lasting.specs.Told.{Moves, PassesOn, standing_of}
use Rattle.kc_lasting.proofs.handle.LastingCaller.read.Given as goal

abbrev pub invariant-tries : goal.invariant-tries
invariant-tries g l =
    (goal.iterator-tries g).can_next l.iterator' × (goal.iterator-tries g).is_finite l.iterator'
    × ((l.self.client.locations ≡ l.fn.self.client.locations) × Moves (standing_of l.fn.self) (standing_of l.self) × PassesOn (standing_of l.fn.self) (standing_of l.self))
