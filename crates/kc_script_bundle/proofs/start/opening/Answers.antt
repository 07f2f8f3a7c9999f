use Rattle.std.proofs.Common.{◌<◌, ◌≤◌, length, arith}
use Rattle.std.proofs.lemmas.List.{length-map}
use Rattle.std.specs.Prelude.{String}
use Rattle.std.specs.Global.{Global}
use Rattle.kc_script_bundle.proofs.Entries.{entry_at, adds_next, adds_all}
use Rattle.kc_script_bundle.specs.Script.{named, names_of, script_of}
use Rattle.kc_script_bundle.specs.State.{opening_cells, opening_values}
use Rattle.kc_script_bundle.specs.declared.object.Object.{Object}
use Rattle.kc_script_bundle.proofs.start.opening.Goals as goal

pub loop-i-preserved : goal.loop-i-preserved
loop-i-preserved c =
    let m = c.args.bundle.now.objects in
    let e : String Global × Object = (c.in-Some.field-0-0.now, c.in-Some.object.now) in
    let at = entry_at named m.entries c.loop-i.i e c.in-Some.ensures.entry in
    let lt : c.loop-i.i < length (names_of m) = omega (arith, length-map m.entries named, c.len-i-end.ensures.len) in
    adds_next (λ entry. opening_cells entry.1) (names_of m) c.loop-i.i c.loop-i.values.items (opening_values (script_of c.args.bundle.now)) c.loop-i.invariant (named e) c.push_cells.new.values.items lt (rw at c.in_ok-push_cells.ensures)

pub returns : goal.returns
returns c =
    let m = c.args.bundle.now.objects in
    let le : length (names_of m) ≤ c.loop-i.i = omega (arith, length-map m.entries named, c.len-i-end.ensures.len) in
    adds_all (λ entry. opening_cells entry.1) (names_of m) c.loop-i.i c.loop-i.values.items (opening_values (script_of c.args.bundle.now)) c.loop-i.invariant le
