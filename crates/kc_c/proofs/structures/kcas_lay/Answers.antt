use Rattle.std.proofs.Common.{inl, refl, subst}
use Rattle.kc_calls.specs.Structures.{OpensStructure, structure_of}
use Rattle.kc_calls.specs.declared.object.KcasObject.{KcasObject}
use Rattle.kc_c.proofs.Lays.{lies_next}
use Rattle.kc_c.specs.Structures.{placed_at}
use Rattle.kc_c.proofs.structures.kcas_lay.Goals as goal

pub returns : goal.returns
returns c =
    let p : KcasObject = placed_at c.args.end.now c.args.object.now in
    let s = c.split_at_mut-free in
    let opens = subst (λ b. OpensStructure (structure_of p) s.result.1.now b c.opening.new.values) c.if-not-opening.false c.opening.ensures in
    inl (refl, lies_next c.args.object.now p (structure_of p) s.result.0.now s.result.1.now c.opening.new.values c.args.values.now c.args.end.now c.cells.result refl s.ensures.value s.ensures.front_len refl opens c.cells.ensures)
