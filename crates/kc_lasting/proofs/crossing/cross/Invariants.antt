use Rattle.std.proofs.Common.{◌≡◌}
use Rattle.kc_lasting.proofs.Moving.{StillThere}
use Rattle.kc_lasting.proofs.crossing.cross.Given as goal

abbrev pub invariant-tries : goal.invariant-tries
invariant-tries g l =
    (goal.iterator-tries g).can_next l.iterator' × (goal.iterator-tries g).is_finite l.iterator'
    × (StillThere l.shared.roll l.fn.client.caller l.fn.client.seen.value l.fn.place l.client.caller l.client.seen.value l.place × (l.client.locations ≡ l.fn.client.locations))
