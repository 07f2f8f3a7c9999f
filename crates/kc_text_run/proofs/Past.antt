-- What is left of a store of two callers.
use Rattle.std.proofs.Common.{◌≡◌, ℕ, zero, suc, ◌∷◌, [], List, refl, sym, ap, ◌∙◌, subst, arith}
use Rattle.std.specs.Prelude.{All}
use Rattle.std.proofs.lemmas.List.Sorted.{IsPermutation-refl}
use Rattle.kc_history.specs.Callers.{IsBelowCallers, IsLegalFrom, of_caller}
use Rattle.kc_model.specs.declared.footprint.Entry.{Entry}
use Rattle.kc_model.specs.Footprint.{IsBelow}
use Rattle.kc_run.proofs.Pasts.{legal_from_values, own_parts}
use Rattle.kc_run.specs.Kcas.{kcas_past, values_at, values_of}
use Rattle.kc_store.specs.Backs.{AreAllCallers}
use Rattle.kc_store.specs.Knows.{IsHistory}
use Rattle.kc_store.specs.Views.{CallerView, PastView, StoreView}
use Rattle.kc_text.specs.declared.texts.Texts.{Texts}
use Rattle.kc_text_run.proofs.Picks.{all_added}
use Rattle.kc_text_run.specs.Picking.{AddsPicks, ArePicks, IsForTwo, IsPastOfPicks, first_half, second_half}

two : (P : CallerView → Type 0) (c d : CallerView) → P c → P d → All P (c ∷ d ∷ [])
two P c d a b zero x lt = a
two P c d a b (suc zero) x lt = b
two P c d a b (suc (suc k)) x lt = absurd (omega (arith, lt))

pub both_callers : (z : StoreView) (c d : CallerView) → z.callers ≡ 2 → c.of ≡ z → d.of ≡ z → c.number ≡ 0 → d.number ≡ 1 → AreAllCallers z (c ∷ d ∷ [])
both_callers z c d callers a b n m = record {
  of = two (λ (x : CallerView). x.of ≡ z) c d a b;
  all = rw (callers, n, m) (IsPermutation-refl (0 ∷ 1 ∷ []));
}

pub past_of_picks : (t : Texts) (picks front back : List ℕ) (z : StoreView) (p : PastView) (c d c' d' : CallerView) → IsForTwo t z → p.past.origin ≡ z.table.origin → IsHistory z (d ∷ d' ∷ []) p → All (λ (e : Entry). IsBelow z.locations e.footprint) p.history → d.number ≡ 0 → d'.number ≡ 1 → c.own ≡ [] → c'.own ≡ []
    → AddsPicks t 0 front c d → AddsPicks t 1 back c' d' → front ≡ first_half picks → back ≡ second_half picks → IsPastOfPicks t picks (kcas_past p)
past_of_picks t picks front back z p c d c' d' two origin history within n n' none none' added added' a b =
    let values : values_at p.past.origin ≡ values_of z = ap values_at origin in
    let own = own_parts z (d ∷ d' ∷ []) p history in
    let first : of_caller 0 p.history ≡ d.own = subst (λ k. of_caller k p.history ≡ d.own) n (own 0 d (omega arith)) in
    let second : of_caller 1 p.history ≡ d'.own = subst (λ k. of_caller k p.history ≡ d'.own) n' (own 1 d (omega arith)) in
    record {
      zeros = values ∙ two.zeros;
      legal = subst (λ vs. IsLegalFrom vs p.history) (sym values) (legal_from_values z (d ∷ d' ∷ []) p two.versions history within);
      first = subst (ArePicks t 0 (first_half picks)) (sym first) (subst (λ ks. ArePicks t 0 ks d.own) a (all_added t 0 front c d none added));
      second = subst (ArePicks t 1 (second_half picks)) (sym second) (subst (λ ks. ArePicks t 1 ks d'.own) b (all_added t 1 back c' d' none' added'));
      nobody_else = subst (λ k. IsBelowCallers k p.history) two.callers history.nobody_else;
    }
