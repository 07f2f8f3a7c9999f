use Rattle.std.proofs.Common.{◌≡◌, ◌++◌, ◌-◌}
use Rattle.kc_script_bundle.specs.Script.{cells}
use Rattle.kc_script_bundle.specs.State.{values_from, opening_value, opening_cells}
use Rattle.kc_script_bundle.proofs.start.push_cells.Given as goal

abbrev pub invariant-loop-i : goal.invariant-loop-i
invariant-loop-i l = l.values.items ++ values_from (opening_value l.object) l.i (cells l.object - l.i) ≡ l.fn.values.items ++ opening_cells l.object
