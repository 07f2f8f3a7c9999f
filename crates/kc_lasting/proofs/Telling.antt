-- What a handle is told.
use Rattle.std.proofs.Common.{◌≡◌, inl, inr, ℕ, Bool, true, false, ◌++◌, List, [], ◌∷◌, None, Some, length, refl, sym, ap, ◌∙◌, arith, subst}
use Rattle.std.proofs.lemmas.List.{length-append}
use Rattle.kc_await.specs.Waiting.{is_later}
use Rattle.kc_lasting.proofs.GoingOver.{over_back}
use Rattle.kc_lasting.specs.Told.{AddsNoPuts, AllToldLater, CommitsBehindLooks, CommitsInSomeEra, Counts, CutAway, GlimpsesInItsEra, GoesOver, HandleView, LooksInItsEra, Judged, LooksSo, DoesNothing, DoesNothingAs, ToldInVain, ToldSo, ViewsThere, ends_with, is_worn_verdict, waited}
use Rattle.kc_model.specs.declared.footprint.Entry.{Entry}
use Rattle.kc_model.specs.declared.footprint.Footprint.{Footprint}
use Rattle.kc_lasting.specs.Cuts.{LooksOnceAt}
use Rattle.kc_model.specs.declared.footprint.Seen.{Seen}
use Rattle.kc_store.proofs.Remembering.{learns_on}
use Rattle.kc_store.specs.Answers.{Settles}
use Rattle.kc_store.specs.Knows.{IsTold, OnlyLearns, Remembers, entry_of}
use Rattle.kc_store.specs.Tries.{Tries}
use Rattle.kc_store.specs.Viewing.{InVain, IsGlimpsed, is_settled, viewed_as}
use Rattle.kc_store.specs.Views.{CallerView}
use Rattle.kc_store.specs.declared.verdict.Answered.{Answered}
use Rattle.kc_store.specs.declared.verdict.Answered.TheVariants as answered
use Rattle.kc_store.specs.declared.verdict.Verdict.{Verdict}
use Rattle.kc_store.specs.declared.verdict.Verdict.TheVariants as verdict
use Rattle.kc_store.specs.declared.viewing.Glimpse.{Glimpse}
use Rattle.kc_store.specs.declared.viewing.Glimpse.TheVariants as glimpse
use Rattle.kc_store.specs.declared.viewing.Viewed.{Viewed}
use Rattle.kc_store.specs.declared.viewing.Viewed.TheVariants as viewed
use Rattle.kc_store.specs.declared.viewing.TheConstants.{MOST_VIEWS}
use Rattle.kc_xt.specs.Meaning.{Meaning}

not_longer : {A : Type 0} (xs : List Entry) (x : Entry) → xs ≡ xs ++ x ∷ [] → A
not_longer xs x e = let a = ap length e in let b = length-append xs (x ∷ []) in absurd (omega (arith, a, b))

pub worn_puts_nothing : (m : Meaning) (a : Verdict) (c : CallerView) (f : Footprint) (b : CallerView) (own : List Entry) → own ≡ c.own → IsTold m a c f b → is_worn_verdict a ≡ true → AddsNoPuts own b f
worn_puts_nothing m (verdict.WornLocation loc) c f b own e t w = λ n is. t.1.0
worn_puts_nothing m verdict.WornPool c f b own e t w = λ n is. not_longer own (entry_of b.number n f) (e ∙ sym t.1 ∙ is)
worn_puts_nothing m (verdict.Done r) c f b own e t w = absurd (cc)
worn_puts_nothing m verdict.Later c f b own e t w = absurd (cc)
worn_puts_nothing m verdict.TooLarge c f b own e t w = absurd (cc)
worn_puts_nothing m (verdict.Lost loc version) c f b own e t w = absurd (cc)
worn_puts_nothing m (verdict.Busy steps) c f b own e t w = absurd (cc)

module _ (m : Meaning) (c : HandleView) (f : Footprint) (b : CallerView) (d : HandleView) (s : CallerView) (e : s ≡ c.confirmed) (r : Remembers c.caller b) (tries : Tries m f c.caller.seat b.seat) where
  pub told_so : (a : Verdict) (j : Bool) → j ≡ true → IsTold m a c.caller f b → Settles m a c.caller.seat f b.seat → Judged (ends_with c d) j s b f d.caller d.confirmed → ToldSo m a c f d
  told_so a j is t settles counts = record {
    behind = b;
    told = t;
    tries = tries;
    settles = settles;
    remembers = r;
    counts = subst (λ (x : CallerView). Counts (ends_with c d) x b f d.caller d.confirmed) e (subst (λ (j : Bool). Judged (ends_with c d) j s b f d.caller d.confirmed) is counts);
  }

  pub told_in_vain : (a : Verdict) (j : Bool) → j ≡ false → IsTold m a c.caller f b → Settles m a c.caller.seat f b.seat → Judged (ends_with c d) j s b f d.caller d.confirmed → ToldInVain m c f d
  told_in_vain a j is t settles cut = record {
    answer = a;
    behind = b;
    told = t;
    tries = tries;
    settles = settles;
    remembers = r;
    cut = subst (λ (x : CallerView). CutAway (ends_with c d) x b f d.caller d.confirmed) e (subst (λ (j : Bool). Judged (ends_with c d) j s b f d.caller d.confirmed) is cut);
  }

-- ---- where nothing was done

module _ (c : HandleView) (b : CallerView) (d : HandleView) where
  pub passes_behind : (s : CallerView) → s ≡ c.confirmed → OnlyLearns c.caller b → DoesNothingAs (ends_with c d) s b d.caller d.confirmed → DoesNothing c d
  passes_behind s e l (inl x) = inl (learns_on c.caller b d.caller l x)
  passes_behind s e l (inr g) = inr (over_back (ends_with c d) c.confirmed c.caller b d.caller d.confirmed l (subst (λ (x : CallerView). GoesOver (ends_with c d) x b d.caller d.confirmed) e g))

  -- it looked, and nobody had begun to cut its era off
  module _ (l : OnlyLearns c.caller b) (on : OnlyLearns b d.caller) (is : d.confirmed ≡ b) (era : d.era ≡ c.era) where
    is_confirmed : LooksInItsEra c d
    is_confirmed = record { on = (subst (OnlyLearns c.caller) (sym is) l, subst (λ (x : CallerView). OnlyLearns x d.caller) (sym is) on); era = era }

    pub glimpses_so : (m : Meaning) (g : Glimpse) (f : Footprint) → (is_settled g ≡ true → IsGlimpsed m g c.caller f b) → (is_settled g ≡ false → InVain m c.caller MOST_VIEWS b) → GlimpsesInItsEra m g c f d
    glimpses_so m g f saw vain = record {
      saw = λ e. record { glimpsed = subst (IsGlimpsed m g c.caller f) (sym is) (saw e); confirmed = is_confirmed };
      vain = λ e. record { vain = subst (InVain m c.caller MOST_VIEWS) (sym is) (vain e); confirmed = is_confirmed };
    }

    pub looks_so : (k : ℕ) (r : Seen) → LooksOnceAt k c.caller.seat r b.seat → LooksSo k r c d
    looks_so k r x = record { looks = subst (λ (y : CallerView). LooksOnceAt k c.caller.seat r y.seat) (sym is) x; confirmed = is_confirmed }

pub views_there : (m : Meaning) (g : Glimpse) (v : Viewed) (c : HandleView) (f : Footprint) (d : HandleView) → Some v ≡ viewed_as g → GlimpsesInItsEra m g c f d → ViewsThere m v c f d
views_there m g v c f d e x = go g e x
  where
    at : (y : Viewed) → Some v ≡ Some y → ViewsThere m y c f d → ViewsThere m v c f d
    at y e w = let q : v ≡ y = cc in subst (λ (z : Viewed). ViewsThere m z c f d) (sym q) w

    go : (g : Glimpse) → Some v ≡ viewed_as g → GlimpsesInItsEra m g c f d → ViewsThere m v c f d
    go (glimpse.Done r) e x = at (viewed.Done r) e (x.saw refl)
    go glimpse.Later e x = at viewed.Later e (x.saw refl)
    go glimpse.TooLarge e x = at viewed.TooLarge e (x.saw refl)
    go glimpse.Puts e x = at viewed.Puts e (x.saw refl)
    go glimpse.Changed e x = absurd (cc)
    go (glimpse.Busy steps) e x = absurd (cc)

pub commits_there : (m : Meaning) (g : Glimpse) (a : Answered) (c x : HandleView) (f h : Footprint) (d : HandleView) → None ≡ viewed_as g → GlimpsesInItsEra m g c h x → CommitsInSomeEra m a x f d → CommitsBehindLooks m a c f d
commits_there m g a c x f h d e looks one = record { looked = x; vain = looks.vain (go g e); commits = one }
  where
    go : (g : Glimpse) → None ≡ viewed_as g → is_settled g ≡ false
    go (glimpse.Done r) e = absurd (cc)
    go glimpse.Later e = absurd (cc)
    go glimpse.TooLarge e = absurd (cc)
    go glimpse.Puts e = absurd (cc)
    go glimpse.Changed e = refl
    go (glimpse.Busy steps) e = refl

-- ---- where it waits

pub waits_on : (m : Meaning) (a : Answered) (c x : HandleView) (f : Footprint) (y d : HandleView) → is_later a ≡ true → AllToldLater m c x → CommitsInSomeEra m a x f y → DoesNothing y d → AllToldLater m c d
waits_on m answered.Later c x f y d e all one on = waited x y d f all one on
waits_on m (answered.Done r) c x f y d e all one on = absurd (cc)
waits_on m answered.TooLarge c x f y d e all one on = absurd (cc)
waits_on m (answered.WornLocation loc) c x f y d e all one on = absurd (cc)
waits_on m answered.WornPool c x f y d e all one on = absurd (cc)
