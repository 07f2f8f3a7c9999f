-- A commit of one of the meanings adds entries of these meanings.
use Rattle.std.proofs.Common.{◌≡◌, ℕ, inl, inr, List, [], ◌∷◌, ◌++◌, sym, ap, subst, ◌∙◌}
use Rattle.std.specs.Prelude.{All}
use Rattle.std.proofs.lemmas.List.{append_assoc, append-nil}
use Rattle.std.proofs.lemmas.List.Elements.{All-append, All-cons, All-nil}
use Rattle.kc_await.specs.Adds.{AddsLooksAlone, AddsLooksAndOne, IsLookOf, IsToldAtLast, IsToldInTime, WaitsSo}
use Rattle.kc_await.specs.Viewing.{IsViewedAtLast}
use Rattle.kc_keep.specs.Only.{CommitsOnly, HasOnly, IsEntryOfThese, IsOfThese, OfMeanings}
use Rattle.kc_model.specs.declared.footprint.Entry.{Entry}
use Rattle.kc_model.specs.declared.footprint.Footprint.{Footprint}
use Rattle.kc_model.specs.declared.reply.Answer.TheVariants as answer
use Rattle.kc_model.specs.declared.reply.Reply.{Reply}
use Rattle.kc_store.specs.Knows.{AddsOne, CommitsSo, IsTold, TriesSo, entry_of}
use Rattle.kc_store.specs.Verdicts.{verdict_of}
use Rattle.kc_store.specs.Viewing.{IsViewed}
use Rattle.kc_store.specs.Views.{CallerView}
use Rattle.kc_store.specs.declared.values.Outcome.{Outcome}
use Rattle.kc_store.specs.declared.values.Outcome.TheVariants as outcome
use Rattle.kc_store.specs.declared.values.Try.{Try}
use Rattle.kc_store.specs.declared.values.Try.TheVariants as one
use Rattle.kc_store.specs.declared.values.Wear.TheVariants as wear
use Rattle.kc_store.specs.declared.verdict.Answered.{Answered}
use Rattle.kc_store.specs.declared.verdict.Answered.TheVariants as answered
use Rattle.kc_store.specs.declared.verdict.Verdict.{Verdict}
use Rattle.kc_store.specs.declared.verdict.Verdict.TheVariants as verdict
use Rattle.kc_store.specs.declared.viewing.Viewed.{Viewed}
use Rattle.kc_store.specs.declared.viewing.Viewed.TheVariants as viewed
use Rattle.kc_xt.specs.Commit.{Answers}
use Rattle.kc_xt.specs.Meaning.{Meaning, limited}

module _ (is_one : Meaning → Type 0) where
  abbrev E : Entry → Type 0
  E = IsEntryOfThese is_one

  -- ---- what is added

  adds_none : (c d : CallerView) → d.own ≡ c.own → CommitsOnly is_one c d
  adds_none c d e = record { added = []; own = e ∙ sym (append-nil c.own); only = All-nil E }

  adds_one : (f : Footprint) (c d : CallerView) → IsOfThese is_one f → AddsOne c f d → CommitsOnly is_one c d
  adds_one f c d is so = record { added = entry_of c.number so.0 f ∷ []; own = so.1; only = All-cons E (entry_of c.number so.0 f) [] is (All-nil E) }

  looks_of : (k : ℕ) (m : Meaning) (es : List Entry) → All (IsLookOf k m) es → OfMeanings is_one es
  looks_of k m es each = λ i d lt. inl (each i d lt).puts_nothing

  adds_looks : (m : Meaning) (c d : CallerView) → AddsLooksAlone m c d → CommitsOnly is_one c d
  adds_looks m c d so = record { added = so.looks; own = so.own; only = looks_of c.number m so.looks so.each }

  adds_behind : (m : Meaning) (f : Footprint) (c d : CallerView) → IsOfThese is_one f → AddsLooksAndOne m c f d → CommitsOnly is_one c d
  adds_behind m f c d is so =
      let x : Entry = entry_of c.number so.number f in
      record {
        added = so.looks ++ x ∷ [];
        own = so.own ∙ append_assoc c.own so.looks (x ∷ []);
        only = All-append E so.looks (x ∷ []) (looks_of c.number m so.looks so.each) (All-cons E x [] is (All-nil E));
      }

  answers_one : (n : ℕ) (m : Meaning) (r : Reply) (f : Footprint) → is_one m → Answers (limited n m) (answer.Reply r) f → IsOfThese is_one f
  answers_one n m r f is y = inr (record { most = n; meaning = m; one = is; reply = r; answers = y })

  -- ---- by what was answered

  pub told : (n : ℕ) (m : Meaning) (a : Verdict) (c : CallerView) (f : Footprint) (d : CallerView) → is_one m → IsTold (limited n m) a c f d → CommitsOnly is_one c d
  told n m (verdict.Done r) c f d is so = adds_one f c d (answers_one n m r f is so.0) so.1
  told n m verdict.Later c f d is so = adds_one f c d (inl so.1.0) so.1.1
  told n m verdict.TooLarge c f d is so = adds_one f c d (inl so.1.0) so.1.1
  told n m (verdict.WornLocation loc) c f d is so = adds_one f c d (inl so.1.0) so.1.1
  told n m verdict.WornPool c f d is so = adds_none c d so.1
  told n m (verdict.Lost loc version) c f d is so = adds_none c d so.1
  told n m (verdict.Busy steps) c f d is so = adds_none c d so.1

  pub committed : (n : ℕ) (m : Meaning) (end : ℕ) (a : Outcome) (c d : CallerView) → is_one m → CommitsSo (limited n m) end a c d → CommitsOnly is_one c d
  committed n m end (outcome.Done r f) c d is so = told n m (verdict.Done r) c f d is so.0
  committed n m end (outcome.Later f) c d is so = told n m verdict.Later c f d is so.0
  committed n m end (outcome.TooLarge f) c d is so = told n m verdict.TooLarge c f d is so.0
  committed n m end (outcome.Worn (wear.Location loc f)) c d is so = told n m (verdict.WornLocation loc) c f d is so.0
  committed n m end (outcome.Worn wear.Pool) c d is so = adds_none c d so.1

  pub tried : (n : ℕ) (m : Meaning) (end : ℕ) (a : Try) (c d : CallerView) → is_one m → TriesSo (limited n m) end a c d → CommitsOnly is_one c d
  tried n m end (one.Done r f) c d is so = told n m (verdict.Done r) c f d is so.0
  tried n m end (one.Later f) c d is so = told n m verdict.Later c f d is so.0
  tried n m end (one.TooLarge f) c d is so = told n m verdict.TooLarge c f d is so.0
  tried n m end (one.Worn (wear.Location loc f)) c d is so = told n m (verdict.WornLocation loc) c f d is so.0
  tried n m end (one.Worn wear.Pool) c d is so = adds_none c d so.1
  tried n m end (one.Lost loc version) c d is so = told n m (verdict.Lost loc version) c so.0 d is so.1
  tried n m end (one.Busy steps) c d is so = adds_none c d so.1

  pub told_at_last : (n : ℕ) (m : Meaning) (a : Answered) (c : CallerView) (f : Footprint) (d : CallerView) → is_one m → IsToldAtLast (limited n m) a c f d → CommitsOnly is_one c d
  told_at_last n m (answered.Done r) c f d is so = adds_behind (limited n m) f c d (answers_one n m r f is so.0) so.1
  told_at_last n m answered.Later c f d is so = absurd so
  told_at_last n m answered.TooLarge c f d is so = adds_behind (limited n m) f c d (inl so.1.0) so.1.1
  told_at_last n m (answered.WornLocation loc) c f d is so = adds_behind (limited n m) f c d (inl so.1.0) so.1.1
  told_at_last n m answered.WornPool c f d is so = adds_looks (limited n m) c d so.1

  pub waited : (n : ℕ) (m : Meaning) (end : ℕ) (a : Outcome) (c d : CallerView) → is_one m → WaitsSo (limited n m) end a c d → CommitsOnly is_one c d
  waited n m end (outcome.Done r f) c d is so = told_at_last n m (answered.Done r) c f d is so.0
  waited n m end (outcome.Later f) c d is so = absurd so
  waited n m end (outcome.TooLarge f) c d is so = told_at_last n m answered.TooLarge c f d is so.0
  waited n m end (outcome.Worn (wear.Location loc f)) c d is so = told_at_last n m (answered.WornLocation loc) c f d is so.0
  waited n m end (outcome.Worn wear.Pool) c d is so = adds_looks (limited n m) c d so.1

  pub seen : (n : ℕ) (m : Meaning) (a : Viewed) (c : CallerView) (f : Footprint) (d : CallerView) → is_one m → IsViewed (limited n m) a c f d → CommitsOnly is_one c d
  seen n m (viewed.Done r) c f d is so = adds_none c d so.1.own
  seen n m viewed.Later c f d is so = adds_none c d so.1.own
  seen n m viewed.TooLarge c f d is so = adds_none c d so.1.own
  seen n m viewed.Puts c f d is so = adds_none c d so.1.own
  seen n m (viewed.Committed a) c f d is so = told n m (verdict_of a) c f d is so.told

  pub seen_at_last : (n : ℕ) (m : Meaning) (a : Viewed) (c : CallerView) (f : Footprint) (d : CallerView) → is_one m → IsViewedAtLast (limited n m) a c f d → CommitsOnly is_one c d
  seen_at_last n m (viewed.Done r) c f d is so = seen n m (viewed.Done r) c f d is so
  seen_at_last n m viewed.Later c f d is so = absurd so
  seen_at_last n m viewed.TooLarge c f d is so = seen n m viewed.TooLarge c f d is so
  seen_at_last n m viewed.Puts c f d is so = seen n m viewed.Puts c f d is so
  seen_at_last n m (viewed.Committed a) c f d is so = told_at_last n m a c f d is so.told

  -- ---- one call behind another

  pub none_added : (c d : CallerView) → d.own ≡ c.own → CommitsOnly is_one c d
  none_added = adds_none

  pub both_added : (c d e : CallerView) → CommitsOnly is_one c d → CommitsOnly is_one d e → CommitsOnly is_one c e
  both_added c d e x y = record {
    added = x.added ++ y.added;
    own = y.own ∙ ap (λ (es : List Entry). es ++ y.added) x.own ∙ append_assoc c.own x.added y.added;
    only = All-append E x.added y.added x.only y.only;
  }

  pub has_still : (c d : CallerView) → HasOnly is_one c → CommitsOnly is_one c d → HasOnly is_one d
  has_still c d has x = subst (OfMeanings is_one) (sym x.own) (All-append E c.own x.added has x.only)

  pub has_all : (c d : CallerView) → c.own ≡ [] → CommitsOnly is_one c d → HasOnly is_one d
  has_all c d none x = has_still c d (subst (OfMeanings is_one) (sym none) (All-nil E)) x

  -- looks, and then a commit
  pub in_time : (n : ℕ) (m : Meaning) (a : Answered) (c : CallerView) (f : Footprint) (d : CallerView) → is_one m → IsToldInTime (limited n m) a c f d → CommitsOnly is_one c d
  in_time n m a c f d is so = both_added c so.last d (adds_looks (limited n m) c so.last so.looks) (told n m (verdict_of a) so.last f d is so.told)
