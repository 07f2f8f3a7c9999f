-- What entries of one caller leave of the others' parts.
use Rattle.std.proofs.Common.{◌≡◌, ◌≢◌, ℕ, zero, suc, ◌<◌, ◌≤◌, Bool, true, false, List, [], ◌∷◌, ◌++◌, set, refl, sym, ap, ◌∙◌, arith, if◌then◌else◌, ◌==◌, append-nil}
use mathlib.Core.Option.{some, some-injective, some-ne-none}
use lib.ListN.{get_elem?}
use Rattle.std.specs.List.{count_by}
use borrow.Author.Tests.{eq-eqb, ne_eqb}
use Rattle.kc_history.specs.Callers.{of_caller, IsBelowCallers}
use Rattle.kc_locked.specs.Locked.{AllOf, is_pass, PassesFit, IsHeldBy}
use Rattle.kc_locked.specs.declared.rule.Part.{Part}
use Rattle.kc_locked.specs.declared.rule.View.{View}
use Rattle.kc_model.proofs.Sums.{counted_cons}
use Rattle.kc_model.specs.declared.footprint.Entry.{Entry}

of_caller-append : (k : ℕ) (xs ys : List Entry) → of_caller k (xs ++ ys) ≡ of_caller k xs ++ of_caller k ys
of_caller-append k [] ys = refl
of_caller-append k (x ∷ xs) ys = by_test (x.caller == k) (of_caller-append k xs ys)
  where
    by_test : (b : Bool) → of_caller k (xs ++ ys) ≡ of_caller k xs ++ of_caller k ys → (if b then x ∷ of_caller k (xs ++ ys) else of_caller k (xs ++ ys)) ≡ (if b then x ∷ of_caller k xs else of_caller k xs) ++ of_caller k ys
    by_test true e = ap (λ l. x ∷ l) e
    by_test false e = e

of_mine : (k : ℕ) (es : List Entry) → AllOf k es → of_caller k es ≡ es
of_mine k [] mine = refl
of_mine k (e ∷ es) mine = rw (eq-eqb e.caller k mine.0) (ap (λ l. e ∷ l) (of_mine k es mine.1))

of_other : (j k : ℕ) (es : List Entry) → j ≢ k → AllOf k es → of_caller j es ≡ []
of_other j k [] ne mine = refl
of_other j k (e ∷ es) ne mine = rw (ne_eqb e.caller j (λ q. ne (sym q ∙ mine.0))) (of_other j k es ne mine.1)

pub own_more : (k : ℕ) (history own es : List Entry) → AllOf k es → own ≡ of_caller k history → own ++ es ≡ of_caller k (history ++ es)
own_more k history own es mine is = ap (λ l. l ++ es) is ∙ ap (λ l. of_caller k history ++ l) (sym (of_mine k es mine)) ∙ sym (of_caller-append k history es)

pub pass_here : (k : ℕ) (p : Part) (ps : List Part) → p.caller ≡ k → 1 ≤ count_by (is_pass k) (p ∷ ps)
pass_here k p ps e = let c = counted_cons (is_pass k) p ps true (eq-eqb p.caller k e) in omega arith

-- commits of caller k leave the lists of other passes
pub all_other : (n k : ℕ) (history es : List Entry) (ps : List Part) → AllOf k es → count_by (is_pass k) ps ≡ 0 → PassesFit n history ps → PassesFit n (history ++ es) ps
all_other n k history es [] mine none f = tt
all_other n k history es (p ∷ ps) mine none f =
    let ne : p.caller ≢ k = (λ q. let h = pass_here k p ps q in omega arith) in (
      f.0,
      f.1 ∙ (sym (append-nil _) ∙ (ap (λ l. of_caller p.caller history ++ l) (sym (of_other p.caller k es ne mine)) ∙ sym (of_caller-append p.caller history es))),
      all_other n k history es ps mine (let c = counted_cons (is_pass k) p ps _ refl in omega arith) f.2,
    )

pub all_below : (n k : ℕ) (es : List Entry) → k < n → AllOf k es → IsBelowCallers n es
all_below n k [] lt mine = λ i d h. absurd (omega arith)
all_below n k (e ∷ es) lt mine = go (all_below n k es lt mine.1)
  where
    go : IsBelowCallers n es → IsBelowCallers n (e ∷ es)
    go rest zero d h = let m = mine.0 in omega arith
    go rest (suc i) d h = rest i d (omega arith)

pub PassesFit-append : (n : ℕ) (history : List Entry) (ps qs : List Part) → PassesFit n history ps → PassesFit n history qs → PassesFit n history (ps ++ qs)
PassesFit-append n history [] qs f g = g
PassesFit-append n history (p ∷ ps) qs f g = (f.0, f.1, PassesFit-append n history ps qs f.2 g)

-- ---- who has the lock

-- a view changed, and has the lock if it had it
pub held_on : (views : List View) (id holder : ℕ) (v w : View) → get_elem? views id ≡ some v → (v.holds ≡ true → w.holds ≡ true) → IsHeldBy holder views → IsHeldBy holder (set views id w)
held_on [] id holder v w at still h = absurd (some-ne-none v (sym at))
held_on (x ∷ xs) zero zero v w at still h =
    let same : h.0 ≡ v = some-injective h.0 v (sym h.1 ∙ at) in
    (w, refl, still (sym (ap (λ (u : View). u.holds) same) ∙ h.2))
held_on (x ∷ xs) zero (suc k) v w at still h = h
held_on (x ∷ xs) (suc i) zero v w at still h = h
held_on (x ∷ xs) (suc i) (suc k) v w at still h = held_on xs i k v w at still h

-- a view took it
pub held_here : (views : List View) (id : ℕ) (v w : View) → get_elem? views id ≡ some v → w.holds ≡ true → IsHeldBy id (set views id w)
held_here [] id v w at h = absurd (some-ne-none v (sym at))
held_here (x ∷ xs) zero v w at h = (w, refl, h)
held_here (x ∷ xs) (suc i) v w at h = held_here xs i v w at h

-- a view more
pub held_beside : (views : List View) (w : View) (holder : ℕ) → IsHeldBy holder views → IsHeldBy holder (views ++ w ∷ [])
held_beside [] w k h = absurd (some-ne-none h.0 (sym h.1))
held_beside (x ∷ xs) w zero h = h
held_beside (x ∷ xs) w (suc k) h = held_beside xs w k h
