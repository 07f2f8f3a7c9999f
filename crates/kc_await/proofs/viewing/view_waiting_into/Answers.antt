use Rattle.kc_xt.specs.Meaning.{limited}
use Rattle.std.proofs.Common.{◌∙◌, sym, ap, subst}
use Rattle.kc_await.proofs.SomeRead.{waits_reads}
use Rattle.kc_await.proofs.Views.{committed_at_last, ends_at_last, put_off_is, viewed_at_last}
use Rattle.kc_await.proofs.Waits.{below_all}
use Rattle.kc_await.specs.Viewing.{again, none}
use Rattle.kc_store.proofs.Glancing.{fills_so, glimpsed_from, unsettled}
use Rattle.kc_store.proofs.Remembering.{learns_on, learns_same, remembers_on}
use Rattle.kc_store.specs.Viewing.{GlimpsesAtLast, IsGlimpsed, is_settled}
use Rattle.kc_await.proofs.viewing.view_waiting_into.Goals as goal

pub loop-init : goal.loop-init
loop-init g c = record { learns = learns_same c.args.caller.now; hung = none }

pub try_views_into-glimpse-requires-clause-caller : goal.try_views_into-glimpse-requires-clause-caller
try_views_into-glimpse-requires-clause-caller g c = c.loop.invariant.learns.remembers.of ∙ c.requires.caller

pub wait_for_a_change-requires : goal.wait_for_a_change-requires
wait_for_a_change-requires g c =
    let m = (limited (g.T.Transact.most c.args.transaction.now) (g.T.Transact.meaning c.args.transaction.now)) in
    let x = c.try_views_into-glimpse in
    let later = put_off_is x.result (sym c.if-not-is_put_off.ensures) in
    record {
      caller = x.ensures.learns.remembers.of ∙ c.loop.invariant.learns.remembers.of ∙ c.requires.caller;
      reads = waits_reads m x.new.footprint (subst (λ a. IsGlimpsed m a c.loop.caller x.new.footprint x.new.caller) later (x.ensures.glimpsed (ap is_settled later))).0;
      below = below_all _ _ x.new.footprint c.requires.within (x.ensures.within (ap is_settled later));
    }

pub loop-preserved : goal.loop-preserved
loop-preserved g c =
    let m = (limited (g.T.Transact.most c.args.transaction.now) (g.T.Transact.meaning c.args.transaction.now)) in
    let x = c.try_views_into-glimpse in
    let y = c.wait_for_a_change in
    let later = put_off_is x.result (sym c.if-not-is_put_off.ensures) in
    record {
      learns = learns_on c.args.caller.now x.new.caller y.new.caller (learns_on c.args.caller.now c.loop.caller x.new.caller c.loop.invariant.learns x.ensures.learns) y.ensures.learns;
      hung = again c.loop.caller x.new.caller y.new.caller x.new.footprint c.loop.invariant.hung (subst (λ a. GlimpsesAtLast m a c.loop.caller x.new.footprint x.new.caller) later (x.ensures.tries (ap is_settled later))) x.ensures.learns y.ensures.hangs y.ensures.learns;
    }

pub returns-in-Some-viewed_on : goal.returns-in-Some-viewed_on
returns-in-Some-viewed_on g c =
    let m = (limited (g.T.Transact.most c.args.transaction.now) (g.T.Transact.meaning c.args.transaction.now)) in
    let x = c.try_views_into-glimpse in
    let said = sym c.in-Some-viewed_on.is ∙ c.viewed_on.ensures in
    let learns = learns_on c.args.caller.now c.loop.caller x.new.caller c.loop.invariant.learns x.ensures.learns in
    let glimpsed = x.ensures.glimpsed (fills_so x.result c.in-Some-viewed_on.viewed said) in
    record {
      viewed = viewed_at_last m x.result c.in-Some-viewed_on.viewed c.args.caller.now x.new.footprint x.new.caller said (sym c.if-not-is_put_off.ensures)
          (glimpsed_from m x.result c.args.caller.now c.loop.caller x.new.footprint x.new.caller (fills_so x.result c.in-Some-viewed_on.viewed said) c.loop.invariant.learns glimpsed) learns;
      hangs = record { last = c.loop.caller; hung = c.loop.invariant.hung; ends = ends_at_last m x.result c.in-Some-viewed_on.viewed c.loop.caller x.new.footprint x.new.caller said (sym c.if-not-is_put_off.ensures) (x.ensures.tries (fills_so x.result c.in-Some-viewed_on.viewed said)) };
      within = λ _. x.ensures.within (fills_so x.result c.in-Some-viewed_on.viewed said);
      remembers = learns.remembers;
    }

pub returns-then-not-is_put_off : goal.returns-then-not-is_put_off
returns-then-not-is_put_off g c =
    let m = (limited (g.T.Transact.most c.args.transaction.now) (g.T.Transact.meaning c.args.transaction.now)) in
    let x = c.try_views_into-glimpse in
    let y = c.commit_waiting_into in
    let learns = learns_on c.args.caller.now c.loop.caller x.new.caller c.loop.invariant.learns x.ensures.learns in
    record {
      viewed = committed_at_last m y.result c.args.caller.now x.new.caller y.new.footprint y.new.caller learns (record { told = y.ensures.told; worn = y.ensures.worn; notes = y.ensures.notes });
      hangs = record { last = c.loop.caller; hung = c.loop.invariant.hung; ends = (x.new.caller, (x.ensures.vain (unsettled x.result (sym c.viewed_on.ensures ∙ c.in_default.is))).1, y.ensures.commits) };
      within = y.ensures.within;
      remembers = remembers_on c.args.caller.now x.new.caller y.new.caller learns.remembers y.ensures.remembers;
    }
