use Rattle.std.proofs.Common.{◌≡◌, sym, ap, ◌∙◌, subst}
use Rattle.std.specs.Prelude.{All}
use Rattle.kc_history.specs.Callers.{of_caller, IsBelowCallers}
use Rattle.kc_locked.proofs.Ends.{owns_all}
use Rattle.kc_locked.specs.Held.{HeldView}
use Rattle.kc_locked.specs.Passes.{PassView, IsLegalPast}
use Rattle.kc_model.specs.Store.{store_of}
use Rattle.kc_locked.proofs.store.LockedStore.finish.Goals as goal

pub returns : goal.returns
returns c =
    let e = c.show.ensures in
    let at : c.show.new.keeper.me.0.found ≡ e.now = ap (λ m. m.0.found) e.is in record {
      opening = ap (λ (h : HeldView). h.opening) at ∙ e.opening ∙ ap (λ v. v.opening) c.self.view_is;
      legal = subst (λ (h : HeldView). IsLegalPast (record { opening = h.opening; history = h.history })) (sym at) (store_of e.now.cells, e.sound.legal);
      own = subst (λ (h : HeldView). All (λ (p : PassView). of_caller p.caller h.history ≡ p.own) c.args.passes.items) (sym at) (owns_all _ e.now.history _ c.args.passes.items e.fit c.gather-keeper.ensures.passes);
      nobody_else = subst (λ (h : HeldView). IsBelowCallers c.args.self.callers h.history) (sym at) (subst (λ n. IsBelowCallers n e.now.history) (ap (λ v. v.callers) c.self.view_is) e.below);
    }
