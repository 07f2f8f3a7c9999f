use Rattle.std.proofs.Common.{◌∙◌, ◌≡◌, List, ap, map, subst, sym}
use Rattle.std.specs.Prelude.{All}
use Rattle.kc_history.specs.Callers.{IsBelowCallers, IsLegalFrom, of_caller}
use Rattle.kc_model.specs.Footprint.{IsBelow}
use Rattle.kc_model.specs.declared.footprint.Entry.{Entry}
use Rattle.kc_run.proofs.Pasts.{are_all, legal_from_values, map_same, own_parts}
use Rattle.kc_run.specs.Kcas.{KcasPastView, OpensAtZero, values_at, values_of}
use Rattle.kc_store.specs.Backs.{AreAllCallers}
use Rattle.kc_store.specs.Knows.{IsHistory}
use Rattle.kc_store.specs.Views.{CallerView, StoreView}
use Rattle.kc_run.proofs.kcas.KcSharedShared.finish.Goals as goal

pub finish-requires : goal.finish-requires
finish-requires c =
    subst (λ (z : StoreView). AreAllCallers z (map (λ (b : CallerView). b) c.args.callers.items)) (sym c.self.view_is)
    (subst (AreAllCallers c.args.self) (sym (map_same c.args.callers.items)) (are_all c.args.self c.args.callers.items c.requires.passes c.requires.all))

pub returns-clause-began : goal.returns-clause-began
returns-clause-began c = ap (λ (v : KcasPastView). v.opening) c.of.ensures ∙ ap values_at c.finish.ensures.past.origin ∙ ap values_of c.self.view_is

pub returns-clause-legal : goal.returns-clause-legal
returns-clause-legal c =
    let callers = map (λ (b : CallerView). b) c.args.callers.items in
    let p = c.finish.result in
    let history = subst (λ (z : StoreView). IsHistory z callers p) c.self.view_is c.finish.ensures.history in
    let within = subst (λ (z : StoreView). All (λ (e : Entry). IsBelow z.locations e.footprint) p.history) c.self.view_is c.finish.ensures.within in
    subst (λ (v : KcasPastView). IsLegalFrom (values_of c.args.self) v.history) (sym c.of.ensures) (legal_from_values c.args.self callers p (subst OpensAtZero c.self.view_is c.self.invariant) history within)

pub returns-clause-own : goal.returns-clause-own
returns-clause-own c =
    let p = c.finish.result in
    let history = subst (λ (z : StoreView). IsHistory z (map (λ (b : CallerView). b) c.args.callers.items) p) c.self.view_is c.finish.ensures.history in
    subst (λ (v : KcasPastView). All (λ (x : CallerView). of_caller x.number v.history ≡ x.own) c.args.callers.items) (sym c.of.ensures) (own_parts c.args.self c.args.callers.items p (subst (λ cs. IsHistory c.args.self cs p) (map_same c.args.callers.items) history))

pub returns-clause-nobody_else : goal.returns-clause-nobody_else
returns-clause-nobody_else c =
    let callers = map (λ (b : CallerView). b) c.args.callers.items in
    subst (λ (v : KcasPastView). IsBelowCallers c.args.self.callers v.history) (sym c.of.ensures) (subst (λ (z : StoreView). IsHistory z callers c.finish.result) c.self.view_is c.finish.ensures.history).nobody_else
