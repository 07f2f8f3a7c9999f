-- Taking the lock, and letting it go with what was entered.
use Rattle.std.proofs.Common.{◌≡◌, ◌≢◌, ℕ, ◌-◌, ◌<◌, ◌≤◌, Bool, true, false, true≢false, List, [], ◌∷◌, ◌++◌, length, set, refl, sym, ap, ◌∙◌, ◌⊎◌, inl, inr, ⊎_elim, arith, subst, ◌==◌, length-set, get_or-set_same, get_or-set_other}
use Rattle.std.specs.Prelude.{slice_index}
use Rattle.std.specs.List.{sum_by, count_by}
use Rattle.std.proofs.lemmas.List.Elements.{All-append}
use mathlib.Core.Option.{some}
use lib.ListN.{get_elem?}
use prog.Atomic.{either}
use borrow.Author.Tests.{eqb-true, eqb-false}
use Rattle.atomic_table.specs.Table as table
use Rattle.atomic_table.specs.Table.{Me, Allows, keeps, takes, gives, stepped}
use Rattle.atomic_table.proofs.Lists.{at_set, set_here, set_again}
use Rattle.kc_history.specs.Callers.{of_caller, IsBelowCallers}
use Rattle.kc_locked.proofs.Views.{own_more, pass_here, all_other, all_below, held_here}
use Rattle.kc_locked.specs.Held.{HeldView}
use Rattle.kc_locked.specs.Locked.{PassesFit, pass_part, free_view, lock_view, is_pass, parts_left, LockFits, LockKept, TookLock, GaveLock, Grown, HoldsLock, committed}
use Rattle.kc_locked.specs.Origin.{LockOrigin}
use Rattle.kc_locked.specs.declared.rule.View.{View}
use Rattle.kc_model.proofs.Sums.{sum_set, sum_one, sum_two}
use Rattle.kc_model.specs.declared.footprint.Entry.{Entry}

abbrev Mine : Type 0
Mine = Me HeldView View

module _ (o : LockOrigin) (s : table.State HeldView View) (id : ℕ) (me : Mine) (kept : LockKept o s) (at : get_elem? s.views id ≡ some me.0) where
  long : 0 < length s.words
  long = let w = kept.two_words in omega arith

  -- the lock was free, and has another word now
  module _ (zero_there : slice_index s.words 0 ≡ 0) (n : ℕ) (taken : 0 < n) where
    nobody_holds : (j : ℕ) (u : View) → get_elem? s.views j ≡ some u → u.holds ≡ true → ⊥
    nobody_holds j u there h = let l = ((kept.views j u there).lock h).2 in omega arith

    kept_taken : LockKept o (stepped s 0 n id me.1 (lock_view me.0.parts kept.now) (takes 0 kept.now))
    kept_taken =
        let w = lock_view me.0.parts kept.now in
        let word : slice_index (set s.words 0 n) 0 ≡ n = get_or-set_same s.words 0 n 0 long in
        record {
          now = kept.now;
          holder = id;
          one_slot = length-set s.homes 0 _ ∙ kept.one_slot;
          two_words = length-set s.words 0 _ ∙ kept.two_words;
          free = λ z. absurd (omega arith);
          taken = λ _. held_here s.views id me.0 w at refl;
          sound = kept.sound;
          opening = kept.opening;
          callers = kept.callers;
          views = λ j u e. ⊎_elim
              (λ (x : (j ≡ id) × (w ≡ u)). subst (LockFits o kept.now (slice_index (set s.words 0 n) 0) id j) x.1 (record { parts = (kept.views id me.0 at).parts; lock = λ h. (x.0, refl, omega arith) }))
              (λ (x : (j ≢ id) × (get_elem? s.views j ≡ some u)). record { parts = (kept.views j u x.1).parts; lock = λ h. absurd (nobody_holds j u x.1 h) })
              (at_set s.views id j w u e);
          once = λ k. let one = kept.once k in let t = sum_set (λ (u : View). count_by (is_pass k) u.parts) s.views id me.0 w at in omega arith;
          space = (let sp = kept.space in let t = sum_set (λ (u : View). parts_left u.parts) s.views id me.0 w at in omega arith);
        }

  -- A word changed, and nobody's view: where it is the lock's, it was taken and is.
  kept_beside : (i n : ℕ) → (slice_index (set s.words i n) 0 ≡ slice_index s.words 0) ⊎ ((0 < slice_index s.words 0) × (0 < slice_index (set s.words i n) 0)) → LockKept o (stepped s i n id me.1 me.0 keeps)
  kept_beside i n word =
      let vs : set s.views id me.0 ≡ s.views = set_again s.views id me.0 at in
      subst (λ views. LockKept o (record { words = set s.words i n; homes = s.homes; views = views })) (sym vs) (record {
        now = kept.now;
        holder = kept.holder;
        one_slot = kept.one_slot;
        two_words = length-set s.words i _ ∙ kept.two_words;
        free = λ z. ⊎_elim (λ same. kept.free (sym same ∙ z)) (λ (x : (0 < slice_index s.words 0) × (0 < slice_index (set s.words i n) 0)). absurd (let y = x.1 in omega arith)) word;
        taken = λ above. kept.taken (⊎_elim (λ same. subst (λ m. 0 < m) same above) (λ (x : (0 < slice_index s.words 0) × (0 < slice_index (set s.words i n) 0)). x.0) word);
        sound = kept.sound;
        opening = kept.opening;
        callers = kept.callers;
        views = λ j u e. let f = kept.views j u e in record {
          parts = f.parts;
          lock = λ h. let l = f.lock h in (l.0, l.1, ⊎_elim (λ same. rw same l.2) (λ (x : (0 < slice_index s.words 0) × (0 < slice_index (set s.words i n) 0)). x.1) word);
        };
        once = kept.once;
        space = kept.space;
      })

-- what the exchange leaves that finds the lock free, or doesn't
pub above : (word : ℕ) → 0 < word → (n : ℕ) → 0 < either (n == 0) word n
above word lt n = by_test (n == 0) refl
  where
    by_test : (b : Bool) → (n == 0) ≡ b → 0 < either b word n
    by_test true e = omega arith
    by_test false e = let ne = eqb-false n 0 e in omega arith

-- The lock is taken by a step that leaves a number above 0, whatever it finds.
pub takes_lock : (o : LockOrigin) (slots id : ℕ) (me : Mine) (f : ℕ → ℕ) → ((n : ℕ) → 0 < f n) → Allows (LockKept o) slots id me 0 f (TookLock o me)
takes_lock o slots id me f above s kept count at small = by_test (slice_index s.words 0 == 0) refl
  where
    n : ℕ
    n = slice_index s.words 0

    by_test : (b : Bool) → (n == 0) ≡ b → (w : View) × (a : table.Act HeldView) × table.Valid s.homes me.1 a × LockKept o (stepped s 0 (f n) id me.1 w a) × TookLock o me n (w, table.carried_after me.1 a)
    by_test true e =
        let z : n ≡ 0 = eqb-true _ 0 e in
        let left : parts_left me.0.parts ≤ sum_by (λ (u : View). parts_left u.parts) s.views = sum_one (λ (u : View). parts_left u.parts) s.views id me.0 at in
        let sp = kept.space in (
          lock_view me.0.parts kept.now,
          takes 0 kept.now,
          kept.free z,
          kept_taken o s id me kept at z (f n) (above n),
          ((λ _. (kept.now, refl, kept.sound, kept.opening, omega arith)), (λ ne. absurd (ne z))),
        )
    by_test false e =
        let ne = eqb-false _ 0 e in
        let word : slice_index (set s.words 0 (f n)) 0 ≡ f n = get_or-set_same s.words 0 (f n) 0 (long o s id me kept at) in
        let now = above n in
        (me.0, keeps, tt, kept_beside o s id me kept at 0 (f n) (inr (omega arith, omega arith)), ((λ z. absurd (ne z)), (λ _. refl)))

-- a step on the other word changes nothing that is known
pub notes : (o : LockOrigin) (slots id : ℕ) (me : Mine) (n : ℕ) → Allows (LockKept o) slots id me 1 (λ _. n) (λ _ after. after ≡ me)
notes o slots id me n s kept count at small = (me.0, keeps, tt, kept_beside o s id me kept at 1 n (inl (get_or-set_other s.words 1 0 n 0 (λ e. omega arith))), refl)

-- one with the lock lets it go, with the entries of its own
module _ (o : LockOrigin) (s : table.State HeldView View) (id : ℕ) (k left : ℕ) (own es : List Entry) (found now : HeldView) (kept : LockKept o s)
    (at : get_elem? s.views id ≡ some (lock_view (pass_part k left own ∷ []) found)) (room : length es ≤ left) (grown : Grown k es found now) where
  lock_facts : (id ≡ kept.holder) × (found ≡ kept.now) × (0 < slice_index s.words 0)
  lock_facts = (kept.views id _ at).lock refl

  history_after : now.history ≡ kept.now.history ++ es
  history_after = grown.history ∙ ap (λ (h : HeldView). h.history ++ es) lock_facts.1

  fits_here : (k < length o.shares) × (own ++ es ≡ of_caller k (kept.now.history ++ es))
  fits_here = let f = (kept.views id _ at).parts in (f.0, own_more k kept.now.history own es grown.mine f.1)

  kept_free : LockKept o (stepped s 0 0 id ((0, now) ∷ []) (free_view (pass_part k (left - length es) (own ++ es) ∷ [])) gives)
  kept_free =
      let v = lock_view (pass_part k left own ∷ []) found in
      let w = free_view (pass_part k (left - length es) (own ++ es) ∷ []) in
      let word : slice_index (set s.words 0 0) 0 ≡ 0 = get_or-set_same s.words 0 0 0 (let c = kept.two_words in omega arith) in
      record {
        now = now;
        holder = id;
        one_slot = length-set s.homes 0 _ ∙ kept.one_slot;
        two_words = length-set s.words 0 _ ∙ kept.two_words;
        free = λ _. set_here s.homes 0 (some now) (let c = kept.one_slot in omega arith);
        taken = λ above. absurd (omega arith);
        sound = grown.sound;
        opening = grown.opening ∙ ap (λ (h : HeldView). h.opening) lock_facts.1 ∙ kept.opening;
        callers = subst (IsBelowCallers (length o.shares)) (sym history_after) (All-append (λ (e : Entry). e.caller < length o.shares) kept.now.history es kept.callers (all_below (length o.shares) k es fits_here.0 grown.mine));
        views = λ j u e. ⊎_elim
            (λ (x : (j ≡ id) × (w ≡ u)). subst (LockFits o now (slice_index (set s.words 0 0) 0) id j) x.1 (record { parts = (fits_here.0, fits_here.1 ∙ ap (of_caller k) (sym history_after), tt); lock = λ q. absurd (true≢false (sym q)) }))
            (λ (x : (j ≢ id) × (get_elem? s.views j ≡ some u)). record {
              parts = subst (λ (h : List Entry). PassesFit (length o.shares) h u.parts) (sym history_after) (all_other (length o.shares) k kept.now.history es u.parts grown.mine (alone j u x.0 x.1) (kept.views j u x.1).parts);
              lock = λ q. absurd (x.0 (((kept.views j u x.1).lock q).0 ∙ sym lock_facts.0));
            })
            (at_set s.views id j w u e);
        once = λ j. let one = kept.once j in let t = sum_set (λ (u : View). count_by (is_pass j) u.parts) s.views id v w at in omega arith;
        space = (
            let sp = kept.space in
            let t = sum_set (λ (u : View). parts_left u.parts) s.views id v w at in
            let one = sum_one (λ (u : View). parts_left u.parts) s.views id v at in
            let less = grown.spare in
            let was = ap (λ (h : HeldView). h.spare) lock_facts.1 in omega arith);
      }
    where
      alone : (j : ℕ) (u : View) → j ≢ id → get_elem? s.views j ≡ some u → count_by (is_pass k) u.parts ≡ 0
      alone j u ne there =
          let two = sum_two (λ (x : View). count_by (is_pass k) x.parts) s.views id j (lock_view (pass_part k left own ∷ []) found) u ne at there in
          let one = kept.once k in
          let hit = pass_here k (pass_part k left own) [] refl in omega arith

pub gives_lock : (o : LockOrigin) (slots id : ℕ) (me : Mine) (es : List Entry) → HoldsLock es me → Allows (LockKept o) slots id me 0 (λ _. 0) (λ _. GaveLock es me 0)
gives_lock o slots id me es h =
    let v = lock_view (pass_part h.caller h.left h.own ∷ []) h.found in
    let w = free_view (pass_part h.caller (h.left - length es) (h.own ++ es) ∷ []) in
    λ s kept count at small.
    let at' : get_elem? s.views id ≡ some v = at ∙ ap (λ (m : Mine). some m.0) h.is in (
      w,
      gives,
      tt,
      subst (λ (m : Mine). LockKept o (stepped s 0 0 id m.1 w gives)) (sym h.is) (kept_free o s id h.caller h.left h.own es h.found h.now kept at' h.room h.grown),
      ap (λ (m : Mine). (w, table.rest m.1)) h.is ∙ ap (λ (m : Mine). (free_view (committed m.0.parts es), [])) (sym h.is),
    )
