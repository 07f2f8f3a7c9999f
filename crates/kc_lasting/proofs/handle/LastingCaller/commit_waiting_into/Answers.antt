use Rattle.std.proofs.Common.{◌≡◌, ◌∙◌, rules, refl, true}
use Rattle.kc_await.specs.Waiting.{is_later}
use Rattle.kc_lasting.proofs.Moving.{moves_first, moves_on}
use Rattle.kc_lasting.proofs.Telling.{waits_on}
use Rattle.kc_lasting.specs.Told.{first, standing_of}
use Rattle.kc_xt.specs.Meaning.{limited}
use Rattle.kc_lasting.proofs.handle.LastingCaller.commit_waiting_into.Goals as goal

pub tries-init : goal.tries-init
tries-init g c = (tt, tt, (refl, moves_first (standing_of c.args.self.now), first))

pub tries-preserved : goal.tries-preserved
tries-preserved g c =
    let a = standing_of c.args.self.now in
    let b = standing_of c.tries.self in
    let m = c.commit_into-answered in
    let d = standing_of m.new.self in
    let later : is_later m.result ≡ true = search rules in (
      tt,
      tt,
      (
        c.wait.ensures.size ∙ m.ensures.size ∙ c.tries.invariant.2.0,
        moves_on a d (standing_of c.wait.new.self) (moves_on a b d c.tries.invariant.2.1 m.ensures.moves) c.wait.ensures.moves,
        waits_on (limited (g.T.Transact.most c.args.transaction.now) (g.T.Transact.meaning c.args.transaction.now)) m.result a b m.new.footprint d (standing_of c.wait.new.self) later c.tries.invariant.2.2 m.ensures.told c.wait.ensures.passes,
      ),
    )
