use Rattle.std.proofs.Common.{◌<◌, ◌≤◌, length, refl, sym, ◌∙◌, subst, true, arith}
use Rattle.std.proofs.lemmas.List.{drop-set-lt, length-set}
use Rattle.std.specs.Prelude.{Option}
use Rattle.kc_calls.proofs.Filling.{filled_more, filled_first}
use Rattle.kc_calls.specs.Structures.{OpensStructure}
use Rattle.kc_calls.specs.Told.{places_from}
use Rattle.kc_script_bundle.specs.Script.{cells}
use Rattle.kc_script_bundle.specs.State.{opening_value}
use Rattle.kc_script_bundle.specs.declared.object.Object.{Object}
use Rattle.kc_calls.proofs.object.opening.Goals as goal

pub loop-i-init : goal.loop-i-init
unfolding places_from
loop-i-init c = record { size = refl; done = refl; rest = refl }

pub loop-i-preserved : goal.loop-i-preserved
loop-i-preserved c =
    let lt : c.loop-i.i < cells c.in-Some.structure = omega (arith, c.loop-i-test.true, c.cells-i-end.ensures) in
    record {
      size = length-set c.loop-i.values c.loop-i.i c.opening_value.result ∙ c.loop-i.invariant.size;
      done = filled_more (opening_value c.in-Some.structure) c.loop-i.values c.loop-i.i c.opening_value.result (omega (arith, c.loop-i-test.true, c.cells-i-end.ensures, c.cells.ensures, c.if-values-cells.false, c.loop-i.invariant.size)) c.opening_value.ensures c.loop-i.invariant.done;
      rest = drop-set-lt (cells c.in-Some.structure) c.loop-i.values c.loop-i.i c.opening_value.result lt ∙ c.loop-i.invariant.rest;
    }

pub returns : goal.returns
returns c =
    let P : Option Object → Type 0 = λ o. OpensStructure o c.args.values.now true c.loop-i.values in
    let fits : cells c.in-Some.structure ≤ length c.args.values.now = omega (arith, c.cells.ensures, c.if-values-cells.false) in
    subst P (sym (sym c.structure.ensures ∙ c.in-Some.is)) (fits, filled_first (opening_value c.in-Some.structure) c.loop-i.values c.args.values.now c.loop-i.i (cells c.in-Some.structure) (omega (arith, c.loop-i.auto.i-end, c.loop-i-test.false, c.cells-i-end.ensures)) c.loop-i.invariant.done c.loop-i.invariant.rest)
