use Rattle.std.proofs.Common.{All, take}
use Rattle.kc_history.specs.RecordsValue.{RecordsValue}
use Rattle.kc_history.specs.Ends.{CanStand}
use Rattle.kc_history.specs.declared.record.Record.{Record}
use Rattle.kc_history.proofs.arranging.are_well_made.Given as goal

abbrev pub invariant-loop-list : goal.invariant-loop-list
invariant-loop-list l = All (λ (v : RecordsValue). All (λ (r : Record). CanStand r.footprint) v.items) (take l.list-index l.records)
