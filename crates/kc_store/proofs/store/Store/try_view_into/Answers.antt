use Rattle.kc_xt.specs.Meaning.{limited}
use Rattle.std.proofs.Common.{◌≡◌, true, subst, sym}
use Rattle.kc_model.specs.Footprint.{IsBelow}
use Rattle.kc_store.specs.Viewing.{IsGlimpsed, LooksTwice, is_settled}
use Rattle.kc_store.proofs.store.Store.try_view_into.Goals as goal

pub returns : goal.returns
returns g c =
    let m = (limited (g.T.Transact.most c.args.transaction.now) (g.T.Transact.meaning c.args.transaction.now)) in
    let x = c.view_in_place-sight in
    let f = x.new.footprint in
    record {
      glimpsed = subst (λ r. IsGlimpsed m r c.args.caller.now f x.new.caller) (sym c.glimpse_on.ensures) x.ensures.glimpsed;
      looks = subst (λ r. is_settled r ≡ true → LooksTwice m c.args.caller.now.seat f x.new.caller.seat) (sym c.glimpse_on.ensures) x.ensures.looks;
      within = subst (λ r. is_settled r ≡ true → IsBelow (g.T.Transact.end c.args.transaction.now) f) (sym c.glimpse_on.ensures) x.ensures.within;
      learns = x.ensures.learns;
      gains = x.ensures.gains;
    }
