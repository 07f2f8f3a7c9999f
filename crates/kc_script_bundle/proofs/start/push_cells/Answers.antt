use Rattle.std.proofs.Common.{◌<◌, ◌≤◌, ◌++◌, rules, arith}
use Rattle.kc_script_bundle.proofs.Opened.{values_next, values_end}
use Rattle.kc_script_bundle.specs.Script.{cells}
use Rattle.kc_script_bundle.specs.State.{opening_value, opening_cells}
use Rattle.kc_script_bundle.proofs.start.push_cells.Goals as goal

pub loop-i-preserved : goal.loop-i-preserved
loop-i-preserved c =
    let o = c.args.object in
    let lt : c.loop-i.i < cells o = omega (arith, c.cells-i-end.ensures) in
    values_next (opening_value o) c.loop-i.i (cells o) c.loop-i.values.items (c.args.values.now.items ++ opening_cells o) _ lt c.loop-i.invariant (search rules)

pub returns : goal.returns
returns c =
    let o = c.args.object in
    let le : cells o ≤ c.loop-i.i = omega (arith, c.cells-i-end.ensures) in
    values_end (opening_value o) c.loop-i.i (cells o) c.loop-i.values.items (c.args.values.now.items ++ opening_cells o) le c.loop-i.invariant
