use Rattle.std.proofs.Common.{sym, ◌∙◌}
use Rattle.std.proofs.lemmas.List.Elements.{All-pop}
use Rattle.std.specs.Prelude.{Some}
use Rattle.kc_lasting.specs.Opening.{IsFirst}
use Rattle.kc_uses_lasting.proofs.open_four.Goals as goal

pub invariant_of-result : goal.invariant_of-result
invariant_of-result c =
    let o = c.in-Ok.ensures.opens in
    let P = IsFirst o.roll o.store in
    let a = All-pop P _ _ (Some c.in-Some.a) c.in-Some.ensures.items o.all in
    let b = All-pop P _ _ (Some c.in-Some-pop.b) c.in-Some-pop.ensures.items a.0 in
    let e = All-pop P _ _ (Some c.in-Some-pop-2.c) c.in-Some-pop-2.ensures.items b.0 in
    let d = All-pop P _ _ (Some c.in-Some-pop-3.d) c.in-Some-pop-3.ensures.items e.0 in
    let to_a = sym a.1.roll_is in
    record { second = b.1.roll_is ∙ to_a; third = e.1.roll_is ∙ to_a; fourth = d.1.roll_is ∙ to_a }
