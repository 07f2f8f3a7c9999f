use Rattle.kc_xt.specs.Meaning.{limited}
use Rattle.std.proofs.Common.{◌≤◌, subst, sym}
use Rattle.kc_store.specs.Answers.{GainsNothing}
use Rattle.kc_store.proofs.Boxed.{caller_of, rests_so, worn_so}
use Rattle.kc_store.proofs.Glancing.{is_glimpsed}
use Rattle.kc_store.proofs.Remembering.{only_learns}
use Rattle.kc_store.proofs.Resting.{of_table, rests_on}
use Rattle.kc_store.specs.Knows.{OnlyLearns}
use Rattle.kc_store.specs.Viewing.{IsGlimpsed, LooksTwice, glimpse_as}
use Rattle.kc_store.specs.Views.{CallerView, StoreView, caller_view}
use Rattle.kc_xt.specs.Commit.{tried_of}
use Rattle.kc_store.proofs.store.Store.view_in_place.Goals as goal

pub view_by-requires : goal.view_by-requires
view_by-requires g c =
    record {
      table = of_table c.caller.inside.worn c.deref_mut.result.now c.self.inside.table c.args.caller.now c.args.self.now (caller_of c.caller.inside.worn c.deref_mut.result.now c.caller.inside.seat.value c.args.caller.now c.deref_mut.ensures.value c.caller.view_is) c.self.view_is c.requires.caller;
      steps = c.self.invariant;
      idle = (rests_so c.deref_mut.result.now c.caller.inside.seat.value c.deref_mut.ensures.value c.caller.invariant.0).idle;
      fit = c.requires.fit;
      within = subst (λ (s : StoreView). g.T.Transact.end c.args.transaction.now ≤ s.locations) (sym c.self.view_is) c.requires.within;
    }

pub invariant_of-caller : goal.invariant_of-caller
invariant_of-caller g c =
    let x = c.view_by in (
      rests_on c.deref_mut.result.now x.new.seat (rests_so c.deref_mut.result.now c.caller.inside.seat.value c.deref_mut.ensures.value c.caller.invariant.0) x.ensures.goes.advances.idle x.ensures.goes.advances.blocked,
      λ q. x.ensures.goes.stays (worn_so c.caller.inside.worn c.deref_mut.result.now c.caller.inside.seat.value c.deref_mut.ensures.value c.caller.invariant.1 q),
    )

pub returns : goal.returns
returns g c =
    let m = (limited (g.T.Transact.most c.args.transaction.now) (g.T.Transact.meaning c.args.transaction.now)) in
    let a = glimpse_as c.view_by.result (tried_of c.view_by.new.trial.went c.view_by.new.trial.reply) in
    let f = c.view_by.new.footprint in
    let v = c.deref_mut.result.now in
    let w = c.view_by.new.seat in
    let e = c.view_by.ensures in
    let worn = c.caller.inside.worn in
    let is = (caller_of c.caller.inside.worn c.deref_mut.result.now c.caller.inside.seat.value c.args.caller.now c.deref_mut.ensures.value c.caller.view_is) in
    record {
      glimpsed = subst (λ x. IsGlimpsed m a x f (caller_view worn w)) is (is_glimpsed m a worn v f w e.sees);
      looks = λ q. subst (λ (x : CallerView). LooksTwice m x.seat f w) is (e.looks q);
      within = e.within;
      learns = subst (λ x. OnlyLearns x (caller_view worn w)) is (only_learns worn v w e.goes.keeps e.goes.none);
      gains = subst (λ (x : CallerView). GainsNothing x.seat w) is e.goes.none;
    }
