-- A view that waits, from view to view.
use Rattle.std.proofs.Common.{◌≡◌, ◌++◌, ◌||◌, true, false, [], ◌∷◌, Some, refl, sym, ap, ◌∙◌, subst}
use Rattle.std.specs.Prelude.{All}
use Rattle.kc_await.specs.Adds.{AddsLooksAndOne, IsLookOf, IsToldAtLast}
use Rattle.kc_await.specs.Viewing.{EndsAtLast, IsCommittedAtLast, IsViewedAtLast, is_put_off}
use Rattle.kc_model.specs.declared.footprint.Footprint.{Footprint}
use Rattle.kc_store.specs.Knows.{OnlyLearns, entry_of}
use Rattle.kc_store.specs.Verdicts.{is_worn_pool, verdict_of}
use Rattle.kc_store.specs.Viewing.{GlimpsesAtLast, IsGlimpsed, viewed_as}
use Rattle.kc_store.specs.Views.{CallerView}
use Rattle.kc_store.specs.declared.verdict.Answered.{Answered}
use Rattle.kc_store.specs.declared.verdict.Answered.TheVariants as answered
use Rattle.kc_store.specs.declared.viewing.Glimpse.{Glimpse}
use Rattle.kc_store.specs.declared.viewing.Glimpse.TheVariants as glimpse
use Rattle.kc_store.specs.declared.viewing.Viewed.{Viewed}
use Rattle.kc_store.specs.declared.viewing.Viewed.TheVariants as viewed
use Rattle.kc_xt.specs.Meaning.{Meaning}

pub put_off_is : (a : Glimpse) → is_put_off a ≡ true → a ≡ glimpse.Later
put_off_is glimpse.Later e = refl
put_off_is (glimpse.Done r) e = absurd (cc)
put_off_is glimpse.TooLarge e = absurd (cc)
put_off_is glimpse.Puts e = absurd (cc)
put_off_is glimpse.Changed e = absurd (cc)
put_off_is (glimpse.Busy steps) e = absurd (cc)

pub viewed_at_last : (m : Meaning) (a : Glimpse) (x : Viewed) (c : CallerView) (f : Footprint) (d : CallerView) → Some x ≡ viewed_as a → is_put_off a ≡ false → IsGlimpsed m a c f d → OnlyLearns c d → IsViewedAtLast m x c f d
viewed_at_last m a x c f d e n g o = go a e n g
  where
    at : (y : Viewed) → Some x ≡ Some y → IsViewedAtLast m y c f d → IsViewedAtLast m x c f d
    at y e v = let q : x ≡ y = cc in subst (λ z. IsViewedAtLast m z c f d) (sym q) v

    go : (a : Glimpse) → Some x ≡ viewed_as a → is_put_off a ≡ false → IsGlimpsed m a c f d → IsViewedAtLast m x c f d
    go (glimpse.Done r) e n g = at (viewed.Done r) e (g, o)
    go glimpse.Later e n g = absurd (cc)
    go glimpse.TooLarge e n g = at viewed.TooLarge e (g, o)
    go glimpse.Puts e n g = at viewed.Puts e (g, o)
    go glimpse.Changed e n g = absurd (cc)
    go (glimpse.Busy steps) e n g = absurd (cc)

pub ends_at_last : (m : Meaning) (a : Glimpse) (x : Viewed) (c : CallerView) (f : Footprint) (d : CallerView) → Some x ≡ viewed_as a → is_put_off a ≡ false → GlimpsesAtLast m a c f d → EndsAtLast m x c f d
ends_at_last m a x c f d e n g = go a e n g
  where
    at : (y : Viewed) → Some x ≡ Some y → EndsAtLast m y c f d → EndsAtLast m x c f d
    at y e v = let q : x ≡ y = cc in subst (λ z. EndsAtLast m z c f d) (sym q) v

    go : (a : Glimpse) → Some x ≡ viewed_as a → is_put_off a ≡ false → GlimpsesAtLast m a c f d → EndsAtLast m x c f d
    go (glimpse.Done r) e n g = at (viewed.Done r) e g
    go glimpse.Later e n g = absurd (cc)
    go glimpse.TooLarge e n g = at viewed.TooLarge e g
    go glimpse.Puts e n g = at viewed.Puts e g
    go glimpse.Changed e n g = absurd (cc)
    go (glimpse.Busy steps) e n g = absurd (cc)

-- ---- a commit that waits, behind views

one_from : (m : Meaning) (c d : CallerView) (f : Footprint) (e : CallerView) → OnlyLearns c d → AddsLooksAndOne m d f e → AddsLooksAndOne m c f e
one_from m c d f e o a = record {
  looks = a.looks;
  each = subst (λ k. All (IsLookOf k m) a.looks) o.remembers.number a.each;
  number = a.number;
  own = a.own ∙ (λ i. o.own i ++ a.looks ++ entry_of (o.remembers.number i) a.number f ∷ []);
  rising = a.rising;
}

told_from : (m : Meaning) (a : Answered) (c d : CallerView) (f : Footprint) (e : CallerView) → OnlyLearns c d → IsToldAtLast m a d f e → IsToldAtLast m a c f e
told_from m (answered.Done r) c d f e o t = (t.0, one_from m c d f e o t.1)
told_from m answered.Later c d f e o t = absurd t
told_from m answered.TooLarge c d f e o t = (t.0, (t.1.0, one_from m c d f e o t.1.1))
told_from m (answered.WornLocation loc) c d f e o t = (t.0, (t.1.0, one_from m c d f e o t.1.1))
told_from m answered.WornPool c d f e o t =
    let a = t.1 in
    (t.0, record { looks = a.looks; each = subst (λ k. All (IsLookOf k m) a.looks) o.remembers.number a.each; own = a.own ∙ ap (λ l. l ++ a.looks) o.own })

pub committed_at_last : (m : Meaning) (a : Answered) (c d : CallerView) (f : Footprint) (e : CallerView) → OnlyLearns c d → IsCommittedAtLast m a d f e → IsCommittedAtLast m a c f e
committed_at_last m a c d f e o x = record {
  told = told_from m a c d f e o x.told;
  worn = λ q. x.worn (o.worn ∙ q);
  notes = x.notes ∙ ap (λ b. is_worn_pool (verdict_of a) || b) o.worn;
}
