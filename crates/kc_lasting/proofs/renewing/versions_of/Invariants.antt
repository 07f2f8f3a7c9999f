use Rattle.std.proofs.Common.{◌≡◌, map, take}
use Rattle.kc_model.specs.declared.footprint.Seen.{Seen}
use Rattle.kc_lasting.proofs.renewing.versions_of.Given as goal

abbrev pub invariant-loop-cell : goal.invariant-loop-cell
invariant-loop-cell l = l.versions.items ≡ map (λ (r : Seen). r.version) (take l.cell-index l.cells)
