use Rattle.std.proofs.Common.{◌≡◌, ◌∙◌, None, rules, refl, subst}
use Rattle.std.specs.Prelude.{Option}
use Rattle.kc_lasting.proofs.Moving.{moves_first, moves_on}
use Rattle.kc_lasting.specs.Told.{GlimpsesOnce, passed, standing_of, still}
use Rattle.kc_store.specs.declared.viewing.Glimpse.{Glimpse}
use Rattle.kc_xt.specs.Meaning.{limited}
use Rattle.kc_lasting.proofs.handle.LastingCaller.view_into.Goals as goal

pub tries-init : goal.tries-init
tries-init g c = (tt, tt, (refl, moves_first (standing_of c.args.self.now), still))

pub tries-preserved : goal.tries-preserved
tries-preserved g c =
    let m = limited (g.T.Transact.most c.args.transaction.now) (g.T.Transact.meaning c.args.transaction.now) in
    let none : c.glimpse.result ≡ None = search rules in
    let a = standing_of c.args.self.now in
    let b = standing_of c.tries.self in
    let d = standing_of c.glimpse.new.self in
    let passes = subst (λ (o : Option Glimpse). GlimpsesOnce m o b c.glimpse.new.footprint d) none c.glimpse.ensures.glimpsed in
    (tt, tt, (c.glimpse.ensures.size ∙ c.tries.invariant.2.0, moves_on a b d c.tries.invariant.2.1 c.glimpse.ensures.moves, passed b d c.tries.invariant.2.2 passes))
