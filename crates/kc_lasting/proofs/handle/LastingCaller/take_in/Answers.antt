use Rattle.std.proofs.Common.{◌≡◌, ◌∙◌, ap, true, rules, subst}
use Rattle.kc_lasting.proofs.Moving.{ends_in}
use Rattle.kc_lasting.specs.Told.{Renews, standing_of}
use Rattle.kc_lasting.specs.declared.line.Line.{Line}
use Rattle.kc_roll.specs.Fronts.{PageView, StandsAtFront}
use Rattle.std.specs.Prelude.{Bool}
use Rattle.kc_lasting.proofs.handle.LastingCaller.take_in.Goals as goal

pub see-requires-clause-of : goal.see-requires-clause-of
see-requires-clause-of g c = ap (λ (p : PageView Line). p.of) c.again-page.ensures.again ∙ c.renew.new.self.of ∙ c.renew.ensures.moves.roll ∙ c.requires.of

pub returns-clause-ends : goal.returns-clause-ends
returns-clause-ends g c = λ _.
    let h = standing_of c.args.other.now in
    let d = standing_of c.renew.new.self in
    let lines = (standing_of c.see.new.self).lines in
    let is : c.renew.result ≡ true = search rules in
    let sees : StandsAtFront d.lines lines = subst (λ (p : PageView Line). StandsAtFront p.seen lines) c.again-page.ensures.again c.see.ensures.sees in
    ends_in lines h d c.args.other.now.all (subst (λ (r : Bool). Renews r h d) is c.renew.ensures.renews) sees
