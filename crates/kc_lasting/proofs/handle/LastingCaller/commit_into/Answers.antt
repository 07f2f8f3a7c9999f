use Rattle.std.proofs.Common.{◌≡◌, ◌∙◌, false, rules, refl, subst}
use Rattle.kc_lasting.proofs.Moving.{moves_first, moves_on}
use Rattle.kc_lasting.specs.Told.{AttemptsSo, again, missed, none, standing_of}
use Rattle.kc_lasting.specs.declared.caller.Attempt.{Attempt}
use Rattle.kc_lasting.specs.declared.caller.Attempt.TheVariants as attempt
use Rattle.kc_store.specs.Verdicts.{is_final, verdict_as}
use Rattle.kc_xt.specs.Commit.{tried_of}
use Rattle.kc_xt.specs.Meaning.{limited}
use Rattle.kc_lasting.proofs.handle.LastingCaller.commit_into.Goals as goal

pub tries-init : goal.tries-init
tries-init g c = (tt, tt, (refl, moves_first (standing_of c.args.self.now), none))

pub tries-preserved-in-Came : goal.tries-preserved-in-Came
tries-preserved-in-Came g c =
    let r = c.try_in_place in
    let a = verdict_as c.in-Came.fate (tried_of r.new.trial.went r.new.trial.reply) in
    let final : is_final a ≡ false = search rules in
    let i = c.tries.invariant.2 in
    (tt, tt, (r.ensures.size ∙ i.0, moves_on (standing_of c.args.self.now) (standing_of c.tries.self) (standing_of r.new.self) i.1 r.ensures.moves, missed (standing_of c.tries.self) (standing_of r.new.self) r.new.footprint a i.2 final c.in-Came.ensures.told))

pub tries-preserved : goal.tries-preserved
tries-preserved g c =
    let m = limited (g.T.Transact.most c.args.transaction.now) (g.T.Transact.meaning c.args.transaction.now) in
    let r = c.try_in_place in
    let is : r.result ≡ attempt.Renewed = search rules in
    let i = c.tries.invariant.2 in
    (tt, tt, (r.ensures.size ∙ i.0, moves_on (standing_of c.args.self.now) (standing_of c.tries.self) (standing_of r.new.self) i.1 r.ensures.moves, again (standing_of c.tries.self) (standing_of r.new.self) r.new.footprint i.2 (subst (λ (o : Attempt). AttemptsSo m o (tried_of r.new.trial.went r.new.trial.reply) (standing_of c.tries.self) r.new.footprint (standing_of r.new.self)) is r.ensures.told)))
