use Rattle.std.proofs.Common.{◌≡◌, ◌++◌, drop}
use Rattle.std.specs.List.{flat_map}
use Rattle.kc_script_bundle.specs.Script.{names_of, script_of}
use Rattle.kc_script_bundle.specs.State.{opening_cells, opening_values}
use Rattle.kc_script_bundle.proofs.start.opening.Given as goal

abbrev pub invariant-loop-i : goal.invariant-loop-i
invariant-loop-i l = l.values.items ++ flat_map (λ entry. opening_cells entry.1) (drop l.i (names_of l.bundle.objects)) ≡ opening_values (script_of l.bundle)
