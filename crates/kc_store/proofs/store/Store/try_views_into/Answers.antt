use Rattle.kc_xt.specs.Meaning.{limited}
use Rattle.std.proofs.Common.{rules, ◌∙◌, refl, sym}
use Rattle.kc_store.proofs.Glancing.{glimpsed_from}
use Rattle.kc_store.proofs.Remembering.{learns_on, learns_same}
use Rattle.kc_store.specs.Viewing.{more, none}
use Rattle.kc_store.proofs.store.Store.try_views_into.Goals as goal

pub loop-tried-init : goal.loop-tried-init
loop-tried-init g c = record { learns = learns_same c.args.caller.now; gains = refl; vain = none }

pub try_view_into-glimpse-requires-clause-caller : goal.try_view_into-glimpse-requires-clause-caller
try_view_into-glimpse-requires-clause-caller g c = c.loop-tried.invariant.learns.remembers.of ∙ c.requires.caller

pub returns-then-is_settled-clause-glimpsed : goal.returns-then-is_settled-clause-glimpsed
returns-then-is_settled-clause-glimpsed g c = λ e.
    let m = (limited (g.T.Transact.most c.args.transaction.now) (g.T.Transact.meaning c.args.transaction.now)) in
    let x = c.try_view_into-glimpse in
    glimpsed_from m x.result c.args.caller.now c.loop-tried.caller x.new.footprint x.new.caller e c.loop-tried.invariant.learns x.ensures.glimpsed

pub returns-then-is_settled-clause-tries : goal.returns-then-is_settled-clause-tries
returns-then-is_settled-clause-tries g c = λ e.
    let x = c.try_view_into-glimpse in
    record { tries = c.loop-tried.tried; few = search rules; from = c.loop-tried.caller; vain = c.loop-tried.invariant.vain; glimpsed = x.ensures.glimpsed; looks = x.ensures.looks e; learns = x.ensures.learns }

pub returns-then-is_settled-clause-vain : goal.returns-then-is_settled-clause-vain
returns-then-is_settled-clause-vain g c = λ e. let t = sym c.is_settled.ensures ∙ c.if-is_settled.true in absurd (cc)

pub returns-then-is_settled-clause-learns : goal.returns-then-is_settled-clause-learns
returns-then-is_settled-clause-learns g c = learns_on c.args.caller.now c.loop-tried.caller c.try_view_into-glimpse.new.caller c.loop-tried.invariant.learns c.try_view_into-glimpse.ensures.learns

pub returns-then-is_settled-clause-gains : goal.returns-then-is_settled-clause-gains
returns-then-is_settled-clause-gains g c = c.try_view_into-glimpse.ensures.gains ∙ c.loop-tried.invariant.gains

pub loop-tried-preserved : goal.loop-tried-preserved
loop-tried-preserved g c =
    let x = c.try_view_into-glimpse in
    record {
      learns = learns_on c.args.caller.now c.loop-tried.caller x.new.caller c.loop-tried.invariant.learns x.ensures.learns;
      gains = x.ensures.gains ∙ c.loop-tried.invariant.gains;
      vain = more c.loop-tried.tried c.loop-tried.caller x.result x.new.footprint x.new.caller c.loop-tried.invariant.vain (sym c.is_settled.ensures ∙ c.if-is_settled.false) x.ensures.glimpsed x.ensures.learns;
    }
