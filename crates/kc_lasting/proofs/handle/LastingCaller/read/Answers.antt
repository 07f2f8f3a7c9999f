use Rattle.std.proofs.Common.{◌≡◌, ◌∙◌, None, rules, refl, subst}
use Rattle.std.specs.Prelude.{Option}
use Rattle.kc_lasting.proofs.Moving.{moves_first, moves_on}
use Rattle.kc_lasting.specs.Told.{LooksOrPasses, passed, standing_of, still}
use Rattle.kc_model.specs.declared.footprint.Seen.{Seen}
use Rattle.kc_lasting.proofs.handle.LastingCaller.read.Goals as goal

pub tries-init : goal.tries-init
tries-init g c = (tt, tt, (refl, moves_first (standing_of c.args.self.now), still))

pub returns-in-Some-look-clause-reads : goal.returns-in-Some-look-clause-reads
returns-in-Some-look-clause-reads g c = record { last = standing_of c.tries.self; before = c.tries.invariant.2.2; looks = c.in-Some-look.ensures.looks }

pub returns-in-Some-look-clause-moves : goal.returns-in-Some-look-clause-moves
returns-in-Some-look-clause-moves g c = moves_on (standing_of c.args.self.now) (standing_of c.tries.self) (standing_of c.look.new.self) c.tries.invariant.2.1 c.look.ensures.moves

pub tries-preserved : goal.tries-preserved
tries-preserved g c =
    let none : c.look.result ≡ None = search rules in
    let a = standing_of c.args.self.now in
    let b = standing_of c.tries.self in
    let d = standing_of c.look.new.self in
    let passes = subst (λ (o : Option Seen). LooksOrPasses c.args.at.0 o b d) none c.look.ensures.looks in
    (tt, tt, (c.look.ensures.size ∙ c.tries.invariant.2.0, moves_on a b d c.tries.invariant.2.1 c.look.ensures.moves, passed b d c.tries.invariant.2.2 passes))
