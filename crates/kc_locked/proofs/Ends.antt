-- What changes no history: the opening, passes that go out and come back, and the look at the end.
use Rattle.std.proofs.Common.{◌≡◌, ◌≢◌, ℕ, zero, suc, ◌+◌, ◌<◌, ◌≤◌, ◌==◌, Bool, true, false, true≢false, List, [], ◌∷◌, ◌++◌, length, set, refl, sym, ap, ◌∙◌, ⊎_elim, arith, subst, get_or, if◌then◌else◌, take, drop, append_assoc}
use Rattle.std.specs.Prelude.{slice_index, All, sum}
use Rattle.std.proofs.lemmas.List.{set-get_or, drop_more}
use Rattle.std.proofs.lemmas.List.Elements.{All-head, All-tail}
use Rattle.std.specs.List.{count_by}
use Rattle.std.proofs.lemmas.List.Sums.{sum_by-append, sum_by-cons, sum_by_more_le, sum_by-take-drop, sum_by_push}
use mathlib.Core.Option.{some, some-injective, some-ne-none}
use lib.ListN.{get_elem?}
use borrow.Author.Tests.{ne_eqb, eqb-true}
use Rattle.atomic_table.specs.Table as table
use Rattle.atomic_table.specs.Table.{Me, Allows, Enters, Joins, Splits, keeps}
use Rattle.atomic_table.proofs.Lists.{at_set, at_snoc}
use Rattle.kc_history.specs.Callers.{of_caller}
use Rattle.kc_locked.specs.Held.{HeldView, held_view}
use Rattle.kc_locked.specs.Locked.{pass_part, free_view, shared_out, first_view, is_pass, parts_left, PassesFit, LockFits, LockKept, no_passes, passes_gathered, pass_dealt, passes_left, LockEnded}
use Rattle.kc_locked.specs.Origin.{LockOrigin, origin}
use Rattle.kc_locked.specs.declared.held.TheConstants.{MOST_COMMITS}
use Rattle.kc_locked.specs.declared.rule.Part.{Part}
use Rattle.kc_locked.specs.declared.rule.View.{View}
use Rattle.kc_model.proofs.Sums.{counted_cons, sum_set}
use Rattle.kc_model.specs.Store.{opened}
use Rattle.kc_model.specs.declared.footprint.Entry.{Entry}
use Rattle.atomic_table.specs.Seated.{TableId}
use Rattle.kc_locked.proofs.Sound.{sound_first}
use Rattle.kc_locked.proofs.Views.{PassesFit-append, held_on, held_beside}
use Rattle.kc_locked.specs.Locked.{MatchesPasses}
use Rattle.kc_locked.specs.Passes.{PassView, pass_of, passes_of}

off : {A : Type 0} → false ≡ true → A
off e = absurd (true≢false (sym e))

-- ---- the opening

fits_first : (n j : ℕ) (ns : List ℕ) → j + length ns ≤ n → PassesFit n [] (shared_out j ns)
fits_first n j [] le = tt
fits_first n j (x ∷ ns) le = (omega arith, refl, fits_first n (j + 1) ns (omega arith))

none_before : (k j : ℕ) (ns : List ℕ) → k < j → count_by (is_pass k) (shared_out j ns) ≡ 0
none_before k j [] lt = refl
none_before k j (x ∷ ns) lt = let c = counted_cons (is_pass k) (pass_part j x []) (shared_out (j + 1) ns) false (ne_eqb j k (λ e. omega arith)) in let rest = none_before k (j + 1) ns (omega arith) in omega arith

once_first : (k j : ℕ) (ns : List ℕ) → count_by (is_pass k) (shared_out j ns) ≤ 1
once_first k j [] = omega arith
once_first k j (x ∷ ns) = by_test (j == k) refl (once_first k (j + 1) ns)
  where
    by_test : (b : Bool) → (j == k) ≡ b → count_by (is_pass k) (shared_out (j + 1) ns) ≤ 1 → count_by (is_pass k) (shared_out j (x ∷ ns)) ≤ 1
    by_test true e le =
        let c = counted_cons (is_pass k) (pass_part j x []) (shared_out (j + 1) ns) true e in
        let same = eqb-true j k e in
        let none = none_before k (j + 1) ns (omega arith) in omega arith
    by_test false e le = let c = counted_cons (is_pass k) (pass_part j x []) (shared_out (j + 1) ns) false e in omega arith

left_first : (j : ℕ) (ns : List ℕ) → parts_left (shared_out j ns) ≡ sum ns
left_first j [] = refl
left_first j (x ∷ ns) = let h = left_first (j + 1) ns in let c = sum_by-cons (λ (p : Part). p.left) (pass_part j x []) (shared_out (j + 1) ns) in let s = sum_by-cons (λ (n : ℕ). n) x ns in omega arith

pub opens : (o : LockOrigin) (h : HeldView) → sum o.shares ≤ MOST_COMMITS → h ≡ held_view o.values [] (opened o.values) (sum o.shares) → LockKept o (table.opening (0 ∷ 0 ∷ []) (h ∷ []) (first_view o))
opens o h most is = record {
  now = held_view o.values [] (opened o.values) (sum o.shares);
  holder = 0;
  one_slot = refl;
  two_words = refl;
  free = λ _. ap (λ (x : HeldView). some (some x)) is;
  taken = λ above. absurd (omega arith);
  sound = sound_first o.values (sum o.shares) most;
  opening = refl;
  callers = λ i d lt. absurd (omega arith);
  views = only;
  once = λ k. let one = once_first k 0 o.shares in omega arith;
  space = (let all = left_first 0 o.shares in omega arith);
}
  where
    only : (i : ℕ) (v : View) → get_elem? (first_view o ∷ []) i ≡ some v → LockFits o (held_view o.values [] (opened o.values) (sum o.shares)) 0 0 i v
    only zero v at = subst (LockFits o (held_view o.values [] (opened o.values) (sum o.shares)) 0 0 0) (some-injective (first_view o) v at) (record { parts = fits_first (length o.shares) 0 o.shares (omega arith); lock = λ h. off h })
    only (suc i) v at = absurd (some-ne-none v (sym at))

-- ---- passes go out and come back

pub arrives : (o : LockOrigin) (slots i : ℕ) → Enters (LockKept o) slots i (λ x w. w ≡ no_passes)
arrives o slots i s kept count small = (
  no_passes,
  record {
    now = kept.now;
    holder = kept.holder;
    one_slot = kept.one_slot;
    two_words = kept.two_words;
    free = kept.free;
    taken = λ above. held_beside s.views no_passes kept.holder (kept.taken above);
    sound = kept.sound;
    opening = kept.opening;
    callers = kept.callers;
    views = λ j u e. ⊎_elim (kept.views j u) (λ same. subst (LockFits o kept.now (slice_index s.words 0) kept.holder j) same (record { parts = tt; lock = λ h. off h })) (at_snoc s.views no_passes u j e);
    once = λ k. let one = kept.once k in let t = sum_by_push (λ (u : View). count_by (is_pass k) u.parts) s.views no_passes in omega arith;
    space = (let sp = kept.space in let t = sum_by_push (λ (u : View). parts_left u.parts) s.views no_passes in omega arith);
  },
  refl,
)

pub deals : (o : LockOrigin) (id : ℕ) (v : View) → Splits (LockKept o) id v (passes_left v) (pass_dealt v)
deals o id v s kept at =
    let f = kept.views id v at in
    let w = passes_left v in
    let x = pass_dealt v in
    record {
      now = kept.now;
      holder = kept.holder;
      one_slot = kept.one_slot;
      two_words = kept.two_words;
      free = kept.free;
      taken = λ above. held_beside (set s.views id w) x kept.holder (held_on s.views id kept.holder v w at (λ h. h) (kept.taken above));
      sound = kept.sound;
      opening = kept.opening;
      callers = kept.callers;
      views = λ j u e. ⊎_elim
          (λ (there : get_elem? (set s.views id w) j ≡ some u). ⊎_elim
          (λ (y : (j ≡ id) × (w ≡ u)). subst (LockFits o kept.now (slice_index s.words 0) kept.holder j) y.1 (record { parts = others v.parts f.parts; lock = λ h. let l = f.lock h in (y.0 ∙ l.0, l.1, l.2) }))
          (λ (y : (j ≢ id) × (get_elem? s.views j ≡ some u)). kept.views j u y.1)
          (at_set s.views id j w u there))
          (λ same. subst (LockFits o kept.now (slice_index s.words 0) kept.holder j) same (record { parts = first v.parts f.parts; lock = λ h. off h }))
          (at_snoc (set s.views id w) x u j e);
      once = λ k.
          let one = kept.once k in
          let c = sum_by-take-drop (λ p. if is_pass k p then 1 else 0) v.parts 1 in
          let t = sum_set (λ (u : View). count_by (is_pass k) u.parts) s.views id v w at in
          let t' = sum_by_push (λ (u : View). count_by (is_pass k) u.parts) (set s.views id w) x in omega arith;
      space = (
          let sp = kept.space in
          let c = sum_by-take-drop (λ (p : Part). p.left) v.parts 1 in
          let t = sum_set (λ (u : View). parts_left u.parts) s.views id v w at in
          let t' = sum_by_push (λ (u : View). parts_left u.parts) (set s.views id w) x in omega arith);
    }
  where
    others : (ps : List Part) → PassesFit (length o.shares) kept.now.history ps → PassesFit (length o.shares) kept.now.history (drop 1 ps)
    others [] f = tt
    others (p ∷ ps) f = f.2

    first : (ps : List Part) → PassesFit (length o.shares) kept.now.history ps → PassesFit (length o.shares) kept.now.history (take 1 ps)
    first [] f = tt
    first (p ∷ ps) f = (f.0, f.1, tt)

pub gathers : (o : LockOrigin) (id : ℕ) (v : View) (other : ℕ) (w : View) → w.holds ≡ false → Joins (LockKept o) id v other w (passes_gathered v w) no_passes
gathers o id v other w none s kept at apart there =
    let both = passes_gathered v w in
    let theirs = ⊎_elim (λ (x : (other ≡ id) × (both ≡ w)). absurd (apart x.0)) (λ (x : (other ≢ id) × (get_elem? s.views other ≡ some w)). x.1) (at_set s.views id other both w there) in
    let f = kept.views id v at in
    let g = kept.views other w theirs in
    record {
      now = kept.now;
      holder = kept.holder;
      one_slot = kept.one_slot;
      two_words = kept.two_words;
      free = kept.free;
      taken = λ above. held_on (set s.views id both) other kept.holder w no_passes there (λ h. off (sym none ∙ h)) (held_on s.views id kept.holder v both at (λ h. h) (kept.taken above));
      sound = kept.sound;
      opening = kept.opening;
      callers = kept.callers;
      views = λ j u e. ⊎_elim
          (λ (x : (j ≡ other) × (no_passes ≡ u)). subst (LockFits o kept.now (slice_index s.words 0) kept.holder j) x.1 (record { parts = tt; lock = λ h. off h }))
          (λ (x : (j ≢ other) × (get_elem? (set s.views id both) j ≡ some u)). ⊎_elim
          (λ (y : (j ≡ id) × (both ≡ u)). subst (LockFits o kept.now (slice_index s.words 0) kept.holder j) y.1 (record { parts = PassesFit-append (length o.shares) kept.now.history v.parts w.parts f.parts g.parts; lock = λ h. let l = f.lock h in (y.0 ∙ l.0, l.1, l.2) }))
          (λ (y : (j ≢ id) × (get_elem? s.views j ≡ some u)). kept.views j u y.1)
          (at_set s.views id j both u x.1))
          (at_set (set s.views id both) other j no_passes u e);
      once = λ k.
          let one = kept.once k in
          let e = sum_by-append (λ p. if is_pass k p then 1 else 0) v.parts w.parts in
          let t = sum_set (λ (u : View). count_by (is_pass k) u.parts) s.views id v both at in
          let t' = sum_set (λ (u : View). count_by (is_pass k) u.parts) (set s.views id both) other w no_passes there in omega arith;
      space = (
          let sp = kept.space in
          let e = sum_by-append (λ (p : Part). p.left) v.parts w.parts in
          let t = sum_set (λ (u : View). parts_left u.parts) s.views id v both at in
          let t' = sum_set (λ (u : View). parts_left u.parts) (set s.views id both) other w no_passes there in omega arith);
    }

-- ---- the look at the end

pub ends : (o : LockOrigin) (slots id : ℕ) (me : Me HeldView View) → Allows (LockKept o) slots id me 0 (λ x. x) (λ found after. LockEnded o me after)
ends o slots id me s kept count at small =
    let w : View = record { parts = me.0.parts; holds = me.0.holds; found = kept.now } in
    let f = kept.views id me.0 at in
    let ws : set s.words 0 (slice_index s.words 0) ≡ s.words = set-get_or s.words 0 0 in (
      w,
      keeps,
      tt,
      subst (λ l. LockKept o (record { words = l; homes = s.homes; views = set s.views id w })) (sym ws)
          (record {
            now = kept.now;
            holder = kept.holder;
            one_slot = kept.one_slot;
            two_words = kept.two_words;
            free = kept.free;
            taken = λ above. held_on s.views id kept.holder me.0 w at (λ h. h) (kept.taken above);
            sound = kept.sound;
            opening = kept.opening;
            callers = kept.callers;
            views = λ j u e. ⊎_elim
                (λ (x : (j ≡ id) × (w ≡ u)). subst (LockFits o kept.now (slice_index s.words 0) kept.holder j) x.1 (record { parts = f.parts; lock = λ h. let l = f.lock h in (x.0 ∙ l.0, refl, l.2) }))
                (λ (x : (j ≢ id) × (get_elem? s.views j ≡ some u)). kept.views j u x.1)
                (at_set s.views id j w u e);
            once = λ k. let one = kept.once k in let t = sum_set (λ (u : View). count_by (is_pass k) u.parts) s.views id me.0 w at in omega arith;
            space = (let sp = kept.space in let t = sum_set (λ (u : View). parts_left u.parts) s.views id me.0 w at in omega arith);
          }),
      record { now = kept.now; is = refl; opening = kept.opening; sound = kept.sound; below = kept.callers; fit = f.parts },
    )

-- ---- the passes that came back

Matches-more : (ps : List Part) (ss : List PassView) (p : Part) (s : PassView) → MatchesPasses ps ss → p.caller ≡ s.caller → p.own ≡ s.own → MatchesPasses (ps ++ p ∷ []) (ss ++ s ∷ [])
Matches-more [] [] p s m e f = (e, f, tt)
Matches-more [] (x ∷ ss) p s m e f = absurd m
Matches-more (q ∷ ps) [] p s m e f = absurd m
Matches-more (q ∷ ps) (x ∷ ss) p s m e f = (m.0, m.1, Matches-more ps ss p s m.2 e f)

pub comes_back : (me : Me HeldView View) (caller left : ℕ) (own : List Entry) (ps : List Part) (ss : List PassView) (v : PassView) → me ≡ (free_view (pass_part caller left own ∷ []), []) → v.caller ≡ caller → v.own ≡ own → MatchesPasses ps ss → MatchesPasses (ps ++ me.0.parts) (ss ++ v ∷ [])
comes_back me caller left own ps ss v is n o m =
    subst (λ l. MatchesPasses (ps ++ l) (ss ++ v ∷ [])) (sym (ap (λ (x : Me HeldView View). x.0.parts) is)) (Matches-more ps ss (pass_part caller left own) v m (sym n) (sym o))

pub owns_all : (n : ℕ) (h : List Entry) (ps : List Part) (ss : List PassView) → PassesFit n h ps → MatchesPasses ps ss → All (λ (p : PassView). of_caller p.caller h ≡ p.own) ss
owns_all n h ps ss e m = λ k d lt. go ps ss e m k d lt
  where
    go : (ps : List Part) (ss : List PassView) → PassesFit n h ps → MatchesPasses ps ss → (k : ℕ) (d : PassView) → k < length ss → of_caller (get_or ss k d).caller h ≡ (get_or ss k d).own
    go [] [] e m k d lt = absurd (omega arith)
    go [] (s ∷ ss) e m k d lt = absurd m
    go (p ∷ ps) [] e m k d lt = absurd m
    go (p ∷ ps) (s ∷ ss) e m zero d lt = ap (λ j. of_caller j h) (sym m.0) ∙ sym e.1 ∙ m.1
    go (p ∷ ps) (s ∷ ss) e m (suc k) d lt = go ps ss e.2 m.2 k d (omega arith)

pub all_at : {A : Type 0} (P : A → Type 0) (xs ys : List A) (y : A) → All P (xs ++ y ∷ ys) → P y
all_at P [] ys y a = All-head P y ys a
all_at P (x ∷ xs) ys y a = all_at P xs ys y (All-tail P x (xs ++ y ∷ ys) a)

pub none_left : {A : Type 0} (xs : List A) (n : ℕ) → n ≡ length xs → n ≡ 0 → xs ≡ []
none_left [] n e z = refl
none_left (x ∷ xs) n e z = absurd (omega arith)

pub opens_on : (values shares vs ss : List ℕ) (spare : ℕ) (h : HeldView) (slots : List HeldView) → sum shares ≤ MOST_COMMITS → vs ≡ values → ss ≡ shares → spare ≡ sum shares → h ≡ held_view values [] (opened values) spare → slots ≡ h ∷ []
    → LockKept (origin vs ss) (table.opening (0 ∷ 0 ∷ []) slots (first_view (origin vs ss)))
opens_on values shares vs ss spare h slots most v s sp is one =
    subst (λ l. LockKept (origin vs ss) (table.opening (0 ∷ 0 ∷ []) l (first_view (origin vs ss)))) (sym one)
    (opens (origin vs ss) h (rw s most) (is ∙ (λ i. held_view (sym v i) [] (opened (sym v i)) ((sp ∙ ap sum (sym s)) i))))

-- ---- the first pass goes out

abbrev Mine : Type 0
Mine = Me HeldView View

pub dealt_is : (me token : Mine) (i : ℕ) (shares : List ℕ) → me ≡ (free_view (shared_out i (drop i shares)), []) → token ≡ (pass_dealt me.0, []) → i < length shares → token ≡ (free_view (pass_part i (get_or shares i 0) [] ∷ []), [])
dealt_is me token i shares is to lt = to ∙ ap (λ (m : Mine). (pass_dealt m.0, [])) is ∙ ap (λ ns. (pass_dealt (free_view (shared_out i ns)), [])) (drop_more shares i 0 lt)

pub undealt_is : (me after : Mine) (i : ℕ) (shares : List ℕ) → me ≡ (free_view (shared_out i (drop i shares)), []) → after ≡ (passes_left me.0, me.1) → i < length shares → after ≡ (free_view (shared_out (i + 1) (drop (i + 1) shares)), [])
undealt_is me after i shares is to lt = to ∙ ap (λ (m : Mine). (passes_left m.0, m.1)) is ∙ ap (λ ns. (passes_left (free_view (shared_out i ns)), [])) (drop_more shares i 0 lt)

pub dealt_more : (t : TableId) (i : ℕ) (shares : List ℕ) (passes after : List PassView) (p : PassView) → passes ++ passes_of t i (drop i shares) ≡ passes_of t 0 shares → after ≡ passes ++ p ∷ [] → p ≡ pass_of t i (get_or shares i 0) [] → i < length shares → after ++ passes_of t (i + 1) (drop (i + 1) shares) ≡ passes_of t 0 shares
dealt_more t i shares passes after p so_far to is lt =
    ap (λ l. l ++ passes_of t (i + 1) (drop (i + 1) shares)) (to ∙ ap (λ q. passes ++ q ∷ []) is) ∙ append_assoc passes (pass_of t i (get_or shares i 0) [] ∷ []) _
    ∙ ap (λ ns. passes ++ passes_of t i ns) (sym (drop_more shares i 0 lt)) ∙ so_far

pub share_fits : (shares : List ℕ) (i : ℕ) → i < length shares → sum shares ≤ MOST_COMMITS → get_or shares i 0 ≤ MOST_COMMITS
share_fits shares i lt most = let le = sum_by_more_le (λ (n : ℕ). n) shares i 0 lt in omega arith
