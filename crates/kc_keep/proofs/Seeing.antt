-- What was read at a place of the history stands where the invariant holds, and what was replied holds there.
use Rattle.std.proofs.Common.{◌≡◌, ℕ, zero, suc, Bool, true, false, cond, inl, inr, List, [], ◌∷◌, ◌++◌, take, drop, refl, sym, ap, subst, ◌∙◌, Contains, arith}
use Rattle.std.specs.List.{filter}
use Rattle.std.specs.Prelude.{◌==◌, IfSome, Option, None, Some}
use Rattle.std.proofs.lemmas.List.{append_assoc, append-nil, take-append-drop}
use Rattle.kc_await.specs.Adds.{WaitsSo}
use Rattle.kc_keep.proofs.Keeping.{says}
use Rattle.kc_keep.specs.Keeping.{CommitsReply, HoldsThroughout, IsSeenWhere, SawReply, SaysWhere, ViewsReply, reply_seen, reply_told}
use Rattle.kc_keep.specs.Only.{reply_in}
use Rattle.kc_model.specs.Legal.{IsLegal}
use Rattle.kc_model.specs.Store.{Finds, Store, after}
use Rattle.kc_model.specs.declared.footprint.Entry.{Entry}
use Rattle.kc_model.specs.declared.footprint.Footprint.{Footprint}
use Rattle.kc_store.proofs.Remembering.{within_on, within_same}
use Rattle.kc_store.specs.Knows.{IsTold, IsWithin, entries_of, entry_of, here, later, none}
use Rattle.kc_store.specs.Verdicts.{verdict_of}
use Rattle.kc_model.specs.declared.reply.Reply.{Reply}
use Rattle.kc_store.specs.Viewing.{FrontMakes, IsViewed}
use Rattle.kc_store.specs.Backs.{ShowsItsSeat}
use Rattle.kc_store.specs.Views.{CallerView}
use Rattle.kc_store.specs.declared.values.Outcome.{Outcome}
use Rattle.kc_store.specs.declared.values.Outcome.TheVariants as outcome
use Rattle.kc_store.specs.declared.values.Wear.TheVariants as wear
use Rattle.kc_store.specs.declared.verdict.Answered.{Answered}
use Rattle.kc_store.specs.declared.verdict.Answered.TheVariants as answered
use Rattle.kc_store.specs.declared.viewing.Viewed.{Viewed}
use Rattle.kc_store.specs.declared.viewing.Viewed.TheVariants as viewed
use Rattle.kc_xt.specs.Commit.{run_on}
use Rattle.kc_xt.specs.Meaning.{Meaning}
use Rattle.kc_store.specs.kc_machine_traces.Histories.{made}

legal_front : (n : ℕ) (es : List Entry) (s e : Store) → IsLegal s es e → IsLegal s (take n es) (made s (take n es))
legal_front zero es s e legal = refl
legal_front (suc n) [] s e legal = refl
legal_front (suc n) (x ∷ xs) s e legal = (legal.0, legal_front n xs (after x.footprint s) e legal.1)

pub seen_where : (holds : (ℕ → ℕ) → Type 0) (s e : Store) (es known : List Entry) (f : Footprint) → HoldsThroughout holds s es → IsLegal s es e → FrontMakes s es known f → IsSeenWhere holds s es known f
seen_where holds s e es known f throughout legal front =
    let n = front.front in
    let here = legal_front n es s e legal in
    record {
      before = take n es;
      behind = drop n es;
      front = sym (take-append-drop n es);
      no_older = front.no_older;
      store = made s (take n es);
      legal = here;
      finds = front.makes;
      there = throughout (take n es) (drop n es) (made s (take n es)) (sym (take-append-drop n es)) here;
    }

-- ---- an entry's place

record HasAt (es : List Entry) (x : Entry) : Type 0 where
  before : List Entry
  behind : List Entry
  is : es ≡ before ++ x ∷ behind

place_of : (es : List Entry) (x : Entry) → Contains es x → HasAt es x
place_of [] x (i, lt, e) = absurd (omega (arith, lt))
place_of (y ∷ ys) x (zero, lt, e) = record { before = []; behind = ys; is = ap (λ (z : Entry). z ∷ ys) e }
place_of (y ∷ ys) x (suc i, lt, e) =
    let rest = place_of ys x (i, omega (arith, lt), e) in
    record { before = y ∷ rest.before; behind = rest.behind; is = ap (λ (zs : List Entry). y ∷ zs) rest.is }

finds_there : (before behind : List Entry) (x : Entry) (s e : Store) → IsLegal s (before ++ x ∷ behind) e → IsLegal s before (made s before) × Finds x.footprint (made s before)
finds_there [] behind x s e legal = (refl, legal.0)
finds_there (y ∷ ys) behind x s e legal =
    let rest = finds_there ys behind x (after y.footprint s) e legal.1 in
    ((legal.0, rest.0), rest.1)

pub entry_where : (holds : (ℕ → ℕ) → Type 0) (s e : Store) (es : List Entry) (x : Entry) → HoldsThroughout holds s es → IsLegal s es e → Contains es x → IsSeenWhere holds s es [] x.footprint
entry_where holds s e es x throughout legal there =
    let at = place_of es x there in
    let found = finds_there at.before at.behind x s e (subst (λ (xs : List Entry). IsLegal s xs e) at.is legal) in
    record {
      before = at.before;
      behind = x ∷ at.behind;
      front = at.is;
      no_older = none;
      store = made s at.before;
      legal = found.0;
      finds = found.1;
      there = throughout at.before (x ∷ at.behind) (made s at.before) at.is found.0;
    }

-- ---- a reply of a commit

first_within : (xs ys : List Entry) → IsWithin xs (xs ++ ys)
first_within [] ys = none
first_within (x ∷ xs) ys = here (first_within xs ys)

-- an entry that stands behind these among those of the sort stands behind them
record StandsBehind (es had : List Entry) (x : Entry) : Type 0 where
  before : List Entry
  behind : List Entry
  is : es ≡ before ++ x ∷ behind
  has : IsWithin had before

behind_one : (y : Entry) (ys had : List Entry) (x : Entry) → StandsBehind ys had x → StandsBehind (y ∷ ys) had x
behind_one y ys had x at = record { before = y ∷ at.before; behind = at.behind; is = ap (λ (zs : List Entry). y ∷ zs) at.is; has = later at.has }

stands_behind : (t : Entry → Bool) (es had : List Entry) (x : Entry) (more : List Entry) → filter t es ≡ had ++ x ∷ more → StandsBehind es had x
stands_behind t [] [] x more e = absurd (cc)
stands_behind t [] (z ∷ had) x more e = absurd (cc)
stands_behind t (y ∷ ys) had x more e = go (t y) had e (λ had e. stands_behind t ys had x more e)
  where
    go : (b : Bool) (had : List Entry) → cond b (y ∷ filter t ys) (filter t ys) ≡ had ++ x ∷ more → ((had : List Entry) → filter t ys ≡ had ++ x ∷ more → StandsBehind ys had x) → StandsBehind (y ∷ ys) had x
    go true [] e again = let same : y ≡ x = cc in record { before = []; behind = ys; is = ap (λ (z : Entry). z ∷ ys) same; has = none }
    go true (z ∷ had) e again =
        let same : y ≡ z = cc in
        let at = again had (cc) in
        record { before = y ∷ at.before; behind = at.behind; is = ap (λ (zs : List Entry). y ∷ zs) at.is; has = subst (λ (u : Entry). IsWithin (z ∷ had) (u ∷ at.before)) (sym same) (here at.has) }
    go false had e again = behind_one y ys had x (again had e)

pub commit_where : (holds : (ℕ → ℕ) → Type 0) (s e : Store) (es : List Entry) (m : Meaning) (a : Reply) (c d : CallerView) (k : ℕ) (added : List Entry) → HoldsThroughout holds s es → IsLegal s es e → CommitsReply m a c d → entries_of k es ≡ d.own ++ added → SaysWhere holds s es c.own m a
commit_where holds s e es m a c d k added throughout legal said own =
    let x : Entry = entry_of c.number said.number said.footprint in
    let at = stands_behind (λ (y : Entry). y.caller == k) es (c.own ++ said.looks) x added (own ∙ ap (λ (xs : List Entry). xs ++ added) said.own ∙ append_assoc (c.own ++ said.looks) (x ∷ []) added) in
    let found = finds_there at.before at.behind x s e (subst (λ (xs : List Entry). IsLegal s xs e) at.is legal) in
    record {
      footprint = said.footprint;
      seen = record {
        before = at.before;
        behind = x ∷ at.behind;
        front = at.is;
        no_older = within_on (first_within c.own said.looks) at.has;
        store = made s at.before;
        legal = found.0;
        finds = found.1;
        there = throughout at.before (x ∷ at.behind) (made s at.before) at.is found.0;
      };
      says = says (run_on m (made s at.before)).outcome a (said.answers.run (made s at.before) found.1);
    }

told_says : (m : Meaning) (x : Answered) (c : CallerView) (f : Footprint) (d : CallerView) → IsTold m (verdict_of x) c f d → IfSome (reply_told x) (λ a. CommitsReply m a c d)
told_says m (answered.Done a) c f d so = record {
  footprint = f;
  answers = so.0;
  looks = [];
  number = so.1.0;
  own = so.1.1 ∙ ap (λ (es : List Entry). es ++ entry_of c.number so.1.0 f ∷ []) (sym (append-nil c.own));
}
told_says m answered.Later c f d so = tt
told_says m answered.TooLarge c f d so = tt
told_says m (answered.WornLocation loc) c f d so = tt
told_says m answered.WornPool c f d so = tt

waits_say : (m : Meaning) (end : ℕ) (o : Outcome) (c d : CallerView) → WaitsSo m end o c d → IfSome (reply_in o) (λ a. CommitsReply m a c d)
waits_say m end (outcome.Done a f) c d so = record { footprint = f; answers = so.0.0; looks = so.0.1.looks; number = so.0.1.number; own = so.0.1.own }
waits_say m end (outcome.Later f) c d so = tt
waits_say m end (outcome.TooLarge f) c d so = tt
waits_say m end (outcome.Worn (wear.Location loc f)) c d so = tt
waits_say m end (outcome.Worn wear.Pool) c d so = tt

pub replies_by : (m : Meaning) (end : ℕ) (o : Outcome) (c d : CallerView) → WaitsSo m end o c d → (r : Option Reply) → r ≡ reply_in o → IfSome r (λ a. CommitsReply m a c d)
replies_by m end o c d so r e = subst (λ (q : Option Reply). IfSome q (λ a. CommitsReply m a c d)) (sym e) (waits_say m end o c d so)

-- ---- views

either_reply : (m : Meaning) (c d : CallerView) (r : Option Reply) → IfSome r (λ a. CommitsReply m a c d) → IfSome r (λ a. ViewsReply m a c d)
either_reply m c d (Some a) said = inr said
either_reply m c d None said = tt

saw_so : (m : Meaning) (v : Viewed) (c : CallerView) (f : Footprint) (d : CallerView) → IsViewed m v c f d → ShowsItsSeat c → ShowsItsSeat d → IfSome (reply_seen v) (λ a. ViewsReply m a c d)
saw_so m (viewed.Done a) c f d so began ended = inl (record { footprint = f; answers = so.0.0; stands = so.0.2; began = began; ended = ended })
saw_so m viewed.Later c f d so began ended = tt
saw_so m viewed.TooLarge c f d so began ended = tt
saw_so m viewed.Puts c f d so began ended = tt
saw_so m (viewed.Committed x) c f d so began ended = either_reply m c d (reply_told x) (told_says m x c f d so.told)

pub saw_by : (m : Meaning) (v : Viewed) (c : CallerView) (f : Footprint) (d : CallerView) → IsViewed m v c f d → ShowsItsSeat c → ShowsItsSeat d → (r : Option Reply) → r ≡ reply_seen v → IfSome r (λ a. ViewsReply m a c d)
saw_by m v c f d so began ended r e = subst (λ (o : Option Reply). IfSome o (λ a. ViewsReply m a c d)) (sym e) (saw_so m v c f d so began ended)

pub says_where : (holds : (ℕ → ℕ) → Type 0) (s : Store) (es known : List Entry) (m : Meaning) (a : Reply) (c d : CallerView) (saw : SawReply m a c d) → IsSeenWhere holds s es known saw.footprint → SaysWhere holds s es known m a
says_where holds s es known m a c d saw seen = record { footprint = saw.footprint; seen = seen; says = says (run_on m seen.store).outcome a (saw.answers.run seen.store seen.finds) }
