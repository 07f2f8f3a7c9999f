use Rattle.std.proofs.Common.{All, take}
use Rattle.kc_history.specs.Ends.{CanStand}
use Rattle.kc_history.specs.declared.record.Record.{Record}
use Rattle.kc_history.proofs.arranging.all_well_made.Given as goal

abbrev pub invariant-loop-i : goal.invariant-loop-i
invariant-loop-i l = All (λ (r : Record). CanStand r.footprint) (take l.i l.list.items)
