use Rattle.kc_xt.specs.Meaning.{limited}
use Rattle.std.proofs.Common.{◌-◌, ap, subst}
use Rattle.kc_store.proofs.Glancing.{glances_then, glimpses, looked_glances, stood, would_put}
use Rattle.kc_store.proofs.Settling.{counted, from_start, given_up, not_busy, ready}
use Rattle.kc_store.specs.Tries.{Sees}
use Rattle.kc_store.specs.declared.budget.Budget.{Budget}
use Rattle.kc_xt.specs.Commit.{Looked, tried_of}
use Rattle.kc_store.proofs.viewing.view_by.Goals as goal

pub returns-in-Busy-clause-sees : goal.returns-in-Busy-clause-sees
returns-in-Busy-clause-sees g c =
    let m = (limited (g.T.Transact.most c.args.transaction.now) (g.T.Transact.meaning c.args.transaction.now)) in
    let v = c.args.seat.now in
    let w = c.look_and_run.new.seat in
    let f = c.look_and_run.new.footprint in
    let b : Budget = record { most = c.args.most_steps; before = c.steps-before.result } in
    let from = from_start v c.args.table.now b c.requires.table c.requires.steps c.steps-before.ensures in
    let l = subst (λ t. Looked (Sees v) m t v f w) (ap (λ w. tried_of w c.look_and_run.new.trial.reply) c.in-Busy.is) (c.look_and_run.ensures.looked.looked v from) in
    (given_up m v f w (c.steps.result - c.steps-before.result) l (counted v.seat.made w.seat.made c.steps.result c.steps-before.result c.look_and_run.ensures.looked.advances.counts c.steps.ensures c.steps-before.ensures)).0

pub returns-in-Busy-clause-goes : goal.returns-in-Busy-clause-goes
returns-in-Busy-clause-goes g c =
    let m = (limited (g.T.Transact.most c.args.transaction.now) (g.T.Transact.meaning c.args.transaction.now)) in
    let v = c.args.seat.now in
    let b : Budget = record { most = c.args.most_steps; before = c.steps-before.result } in
    let from = from_start v c.args.table.now b c.requires.table c.requires.steps c.steps-before.ensures in
    looked_glances m (tried_of c.look_and_run.new.trial.went c.look_and_run.new.trial.reply) v c.look_and_run.new.footprint b c.look_and_run.new.seat c.look_and_run.ensures.looked from

pub confirm-requires : goal.confirm-requires
confirm-requires g c =
    let m = (limited (g.T.Transact.most c.args.transaction.now) (g.T.Transact.meaning c.args.transaction.now)) in
    let x = c.look_and_run.ensures in
    let b : Budget = record { most = c.args.most_steps; before = c.steps-before.result } in
    let t = tried_of c.look_and_run.new.trial.went c.look_and_run.new.trial.reply in
    let n = not_busy c.look_and_run.new.trial.went c.look_and_run.new.trial.reply c.in_default.not-Busy in
    let y =
    ready m t c.args.footprint.now c.look_and_run.new.footprint c.args.table.now c.args.seat.now c.look_and_run.new.seat b
    (g.T.Transact.end c.args.transaction.now) c.requires.table c.requires.steps c.steps-before.ensures n x.came x.within c.requires.within x.looked in
    record { table = y.table; idle = y.idle; below = y.made.1; known = y.known }

pub returns-then-not-confirm : goal.returns-then-not-confirm
returns-then-not-confirm g c =
    let m = (limited (g.T.Transact.most c.args.transaction.now) (g.T.Transact.meaning c.args.transaction.now)) in
    let v = c.args.seat.now in
    let u = c.look_and_run.new.seat in
    let w = c.confirm.new.seat in
    let f = c.look_and_run.new.footprint in
    let t = tried_of c.look_and_run.new.trial.went c.look_and_run.new.trial.reply in
    let b : Budget = record { most = c.args.most_steps; before = c.steps-before.result } in
    let from = from_start v c.args.table.now b c.requires.table c.requires.steps c.steps-before.ensures in
    let a = looked_glances m t v f b u c.look_and_run.ensures.looked from in
    record { sees = record { tried = t; seen = u; looked = c.look_and_run.ensures.looked.looked v from; missed = c.confirm.ensures.missed c.if-not-confirm.true }; looks = λ e. absurd (cc); within = λ e. absurd (cc); goes = glances_then v u w a c.confirm.ensures.goes }

pub returns-then-puts : goal.returns-then-puts
returns-then-puts g c =
    let m = (limited (g.T.Transact.most c.args.transaction.now) (g.T.Transact.meaning c.args.transaction.now)) in
    let v = c.args.seat.now in
    let u = c.look_and_run.new.seat in
    let w = c.confirm.new.seat in
    let f = c.look_and_run.new.footprint in
    let t = tried_of c.look_and_run.new.trial.went c.look_and_run.new.trial.reply in
    let b : Budget = record { most = c.args.most_steps; before = c.steps-before.result } in
    let from = from_start v c.args.table.now b c.requires.table c.requires.steps c.steps-before.ensures in
    let a = looked_glances m t v f b u c.look_and_run.ensures.looked from in
    record {
      sees = (
        would_put m c.look_and_run.new.trial.went c.look_and_run.new.trial.reply c.args.footprint.now f c.in_default.not-Busy c.look_and_run.ensures.came c.look_and_run.ensures.puts (c.puts.ensures.some c.if-puts.true),
        stood v u w f a c.confirm.ensures.goes (c.confirm.ensures.confirmed c.if-not-confirm.false),
      );
      looks = λ _. record { tried = t; seen = u; looked = c.look_and_run.ensures.looked.looked v from; again = c.confirm.ensures.again c.if-not-confirm.false };
      within = λ _. c.look_and_run.ensures.within (not_busy c.look_and_run.new.trial.went c.look_and_run.new.trial.reply c.in_default.not-Busy);
      goes = glances_then v u w a c.confirm.ensures.goes;
    }

pub returns : goal.returns
returns g c =
    let m = (limited (g.T.Transact.most c.args.transaction.now) (g.T.Transact.meaning c.args.transaction.now)) in
    let v = c.args.seat.now in
    let u = c.look_and_run.new.seat in
    let w = c.confirm.new.seat in
    let f = c.look_and_run.new.footprint in
    let t = tried_of c.look_and_run.new.trial.went c.look_and_run.new.trial.reply in
    let b : Budget = record { most = c.args.most_steps; before = c.steps-before.result } in
    let from = from_start v c.args.table.now b c.requires.table c.requires.steps c.steps-before.ensures in
    let a = looked_glances m t v f b u c.look_and_run.ensures.looked from in
    record {
      sees = glimpses m t c.args.footprint.now f v w (not_busy c.look_and_run.new.trial.went c.look_and_run.new.trial.reply c.in_default.not-Busy) c.look_and_run.ensures.came (c.puts.ensures.none c.if-puts.false).1 (stood v u w f a c.confirm.ensures.goes (c.confirm.ensures.confirmed c.if-not-confirm.false));
      looks = λ _. record { tried = t; seen = u; looked = c.look_and_run.ensures.looked.looked v from; again = c.confirm.ensures.again c.if-not-confirm.false };
      within = λ _. c.look_and_run.ensures.within (not_busy c.look_and_run.new.trial.went c.look_and_run.new.trial.reply c.in_default.not-Busy);
      goes = glances_then v u w a c.confirm.ensures.goes;
    }
