use Rattle.std.proofs.Common.{◌≡◌, Bool, true, rules, subst}
use Rattle.kc_lasting.proofs.Gathering.{all_same, ends_on}
use Rattle.kc_lasting.proofs.Moving.{begins_first, ends_in}
use Rattle.kc_lasting.specs.Told.{Renews, standing_of}
use Rattle.kc_lasting.proofs.handle.LastingCaller.finish.Goals as goal

pub returns-clause-own : goal.returns-clause-own
returns-clause-own g c = λ _.
    let a = standing_of c.args.self.now in
    let b = standing_of c.renew.new.self in
    let d = standing_of c.take_all_in.new.self in
    let is : c.renew.result ≡ true = search rules in
    ends_on b.lines d.lines c.take_all_in.ensures.moves.lines a (ends_in b.lines a b c.args.self.now.all (subst (λ (r : Bool). Renews r a b) is c.renew.ensures.renews) (begins_first b.lines))

pub returns-then-not-renew-clause-pass : goal.returns-then-not-renew-clause-pass
returns-then-not-renew-clause-pass g c = all_same c.args.others.now
