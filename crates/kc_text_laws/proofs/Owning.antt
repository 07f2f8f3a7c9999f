-- From each caller's own entries to the whole history.
use Rattle.std.proofs.Common.{◌≡◌, ◌≢◌, ℕ, zero, suc, ◌+◌, ◌-◌, ◌<◌, ◌⊎◌, Bool, true, false, cond, List, [], ◌∷◌, refl, ap, ◌∙◌, subst, arith, inl, inr}
use Rattle.std.specs.Prelude.{◌==◌, ◌++◌, Option, Some, None, Contains}
use Rattle.std.specs.Option.{option_map}
use Rattle.std.proofs.lemmas.Bool.Decides.{nat_tests}
use borrow.Author.Tests.{eqb-false}
use Rattle.kc_model.specs.Legal.{IsLegal}
use Rattle.kc_model.specs.Store.{Store, Finds, after}
use Rattle.kc_model.specs.declared.footprint.Entry.{Entry}
use Rattle.kc_model.specs.declared.footprint.Footprint.{Footprint}
use Rattle.kc_model.specs.declared.footprint.Put.{Put}
use Rattle.kc_model.specs.declared.reply.Answer.{Answer}
use Rattle.kc_model.specs.declared.reply.Answer.TheVariants as answer
use Rattle.kc_model.specs.declared.reply.Reply.{Reply}
use Rattle.kc_text.specs.kc_store.Knows.{entries_of}
use Rattle.kc_text.proofs.Replies.{says_somewhere}
use Rattle.kc_text_laws.specs.Holding.{ActsOnTexts, EndsItsOwn, KeepTexts, LeavesTexts, ends_lease, holders_after, opens_lease, without, written_at}
use Rattle.kc_text.specs.Meaning.{op, text_meaning}
use Rattle.kc_text_laws.specs.Owning.{CallerKeeps, IsTextOperation, held_on}
use Rattle.kc_text.specs.declared.operation.TextAct.{TextAct}
use Rattle.kc_text.specs.declared.texts.Texts.{Texts}
use Rattle.kc_xt.specs.Commit.{Answers, run_on}
use Rattle.kc_xt.specs.Meaning.{last_written}
use Rattle.kc_xt.specs.Times.{times}

-- ---- how often a caller stands among who holds

times_here : (k : ℕ) (ks : List ℕ) → times k (k ∷ ks) ≡ times k ks + 1
times_here k ks = let e : (k == k) ≡ true = grind (arith, nat_tests) in rw e (omega arith)

times_else : (k x : ℕ) (ks : List ℕ) → x ≢ k → times k (x ∷ ks) ≡ times k ks
times_else k x ks ne = let e : (x == k) ≡ false = grind (arith, nat_tests, ne) in rw e (omega arith)

times_without : (k : ℕ) (ks : List ℕ) → times k (without k ks) ≡ times k ks - 1
times_without k [] = refl
times_without k (x ∷ xs) = by_test (x == k) (times_without k xs) refl
  where
    by_test : (b : Bool) → times k (without k xs) ≡ times k xs - 1 → (x == k) ≡ b → times k (cond b xs (x ∷ without k xs)) ≡ (cond (x == k) 1 0 + times k xs) - 1
    by_test true ih e = rw e (omega arith)
    by_test false ih e = rw e (omega (arith, ih))

times_without_other : (k j : ℕ) (ks : List ℕ) → j ≢ k → times k (without j ks) ≡ times k ks
times_without_other k j [] ne = refl
times_without_other k j (x ∷ xs) ne = by_test (x == j) (times_without_other k j xs ne) refl
  where
    by_test : (b : Bool) → times k (without j xs) ≡ times k xs → (x == j) ≡ b → times k (cond b xs (x ∷ without j xs)) ≡ cond (x == k) 1 0 + times k xs
    by_test true ih e = let other : (x == k) ≡ false = grind (arith, nat_tests, e, ne) in rw other (omega arith)
    by_test false ih e = ap (λ n. cond (x == k) 1 0 + n) ih

contains_times : (k : ℕ) (ks : List ℕ) → 0 < times k ks → Contains ks k
contains_times k [] lt = absurd (omega arith)
contains_times k (x ∷ xs) lt = by_test (x == k) refl lt (contains_times k xs)
  where
    by_test : (b : Bool) → (x == k) ≡ b → 0 < cond b 1 0 + times k xs → (0 < times k xs → Contains xs k) → Contains (x ∷ xs) k
    by_test true e lt ih = (zero, omega arith, grind (arith, nat_tests, e))
    by_test false e lt ih = let r = ih (omega arith) in (suc r.0, omega (arith, r.1), r.2)

-- ---- one entry

module _ (t : Texts) where
  -- the caller of an entry holds one more or one less by it
  held_own : (j : ℕ) (e : Entry) (ks : List ℕ) → times e.caller (holders_after t j e ks) ≡ held_on t j e.footprint (times e.caller ks)
  held_own j e ks = by_tests (opens_lease t j e.footprint) (ends_lease t j e.footprint)
    where
      by_tests : (a b : Bool) → times e.caller (cond a (e.caller ∷ ks) (cond b (without e.caller ks) ks)) ≡ cond a (times e.caller ks + 1) (cond b (times e.caller ks - 1) (times e.caller ks))
      by_tests true b = times_here e.caller ks
      by_tests false true = times_without e.caller ks
      by_tests false false = refl

  -- and every other as many
  held_other : (j k : ℕ) (e : Entry) (ks : List ℕ) → e.caller ≢ k → times k (holders_after t j e ks) ≡ times k ks
  held_other j k e ks ne = by_tests (opens_lease t j e.footprint) (ends_lease t j e.footprint)
    where
      by_tests : (a b : Bool) → times k (cond a (e.caller ∷ ks) (cond b (without e.caller ks) ks)) ≡ times k ks
      by_tests true b = times_else k e.caller ks ne
      by_tests false true = times_without_other k e.caller ks ne
      by_tests false false = refl

  same_held : (a b : ℕ → ℕ) (es : List Entry) → ((j : ℕ) → b j ≡ a j) → CallerKeeps t a es → CallerKeeps t b es
  same_held a b [] same h = h
  same_held a b (e ∷ es) same h = (h.0, (λ j text ends. rw (same j) (h.1 j text ends)), same_held (λ j. held_on t j e.footprint (a j)) (λ j. held_on t j e.footprint (b j)) es (λ j. ap (held_on t j e.footprint) (same j)) h.2)

  put_once : (o : Option ℕ) (l v : ℕ) → option_map (λ (p : Put). p.after) (option_map (λ n. (let p : Put = record { loc = record { 0 = l }; version = v; after = n } in p)) o) ≡ o
  put_once None l v = refl
  put_once (Some n) l v = refl

  -- what an operation that replied put at a location
  pub wrote : (b : TextAct) (r : Reply) (f : Footprint) (s : Store) → Answers (text_meaning (op t b)) (answer.Reply r) f → Finds f s → (l : ℕ) → written_at f l ≡ last_written (run_on (text_meaning (op t b)) s).touches l
  wrote b r f s y finds l = ap (option_map (λ (p : Put). p.after)) ((y.makes s finds).puts l) ∙ put_once (last_written (run_on (text_meaning (op t b)) s).touches l) l (s l).version

  -- an operation's footprint acts on the texts wherever it is found
  pub acts : (f : Footprint) (s : Store) → IsTextOperation t f → Finds f s → ActsOnTexts t s f
  acts f s o finds = by_answer o.answer o.answers
    where
      by_answer : (a : Answer) → Answers (text_meaning (op t o.act)) a f → ActsOnTexts t s f
      by_answer (answer.Reply r) y = record {
        act = o.act;
        fit = o.fit;
        made = y.well_made;
        puts = λ l cell. wrote o.act r f s y finds l;
      }
      by_answer answer.TooLarge y = absurd (says_somewhere t o.act answer.TooLarge f y).1

  -- ---- all entries

  tail_of : (k : ℕ) (x : Entry) (es : List Entry) (held : ℕ → List ℕ) → CallerKeeps t (λ j. times k (held j)) (entries_of k (x ∷ es)) → CallerKeeps t (λ j. times k (holders_after t j x (held j))) (entries_of k es)
  tail_of k x es held keep = by_test (x.caller == k) refl keep
    where
      by_test : (b : Bool) → (x.caller == k) ≡ b → CallerKeeps t (λ j. times k (held j)) (cond b (x ∷ entries_of k es) (entries_of k es)) → CallerKeeps t (λ j. times k (holders_after t j x (held j))) (entries_of k es)
      by_test true e keep = same_held (λ j. held_on t j x.footprint (times k (held j))) _ (entries_of k es) (λ j. (let q : x.caller ≡ k = grind (arith, nat_tests, e) in subst (λ i. times i (holders_after t j x (held j)) ≡ held_on t j x.footprint (times i (held j))) q (held_own j x (held j)))) keep.2
      by_test false e keep = same_held (λ j. times k (held j)) _ (entries_of k es) (λ j. held_other j k x (held j) (eqb-false _ _ e)) keep

  head_of : (x : Entry) (es : List Entry) (held : ℕ → List ℕ) → CallerKeeps t (λ j. times x.caller (held j)) (entries_of x.caller (x ∷ es)) → (LeavesTexts t x.footprint ⊎ IsTextOperation t x.footprint) × EndsItsOwn t held x
  head_of x es held keep = by_test (x.caller == x.caller) (grind (arith, nat_tests)) keep
    where
      by_test : (b : Bool) → b ≡ true → CallerKeeps t (λ j. times x.caller (held j)) (cond b (x ∷ entries_of x.caller es) (entries_of x.caller es)) → (LeavesTexts t x.footprint ⊎ IsTextOperation t x.footprint) × EndsItsOwn t held x
      by_test true e keep = (keep.0, λ j text ends. contains_times x.caller (held j) (keep.1 j text ends))
      by_test false e keep = absurd (cc)

  -- what each caller keeps the list keeps
  pub together : (es : List Entry) (s end : Store) (held : ℕ → List ℕ) → IsLegal s es end → ((k : ℕ) → CallerKeeps t (λ j. times k (held j)) (entries_of k es)) → KeepTexts t s held es
  together [] s end held legal keep = tt
  together (x ∷ es) s end held legal keep =
      let here = head_of x es held (keep x.caller) in
      (by_kind here.0, here.1, together es (after x.footprint s) end (λ j. holders_after t j x (held j)) legal.1 (λ k. tail_of k x es held (keep k)))
    where
      by_kind : LeavesTexts t x.footprint ⊎ IsTextOperation t x.footprint → LeavesTexts t x.footprint ⊎ ActsOnTexts t s x.footprint
      by_kind (inl a) = inl a
      by_kind (inr a) = inr (acts x.footprint s a legal.0)

  -- and so does each beginning of it
  pub front_keeps : (before behind : List Entry) (s : Store) (held : ℕ → List ℕ) → KeepTexts t s held (before ++ behind) → KeepTexts t s held before
  front_keeps [] behind s held keep = tt
  front_keeps (x ∷ xs) behind s held keep = (keep.0, keep.1, front_keeps xs behind (after x.footprint s) _ keep.2)
