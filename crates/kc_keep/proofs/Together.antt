-- From each caller's own entries to the whole history.
use Rattle.std.proofs.Common.{◌≡◌, ℕ, zero, suc, ◌+◌, ◌<◌, ◌≤◌, Bool, true, false, cond, List, [], ◌∷◌, map, refl, sym, subst, arith}
use Rattle.std.specs.Prelude.{◌==◌, nat_lt, All, Contains}
use Rattle.std.proofs.lemmas.Bool.Decides.{nat_tests}
use Rattle.std.proofs.lemmas.List.Elements.{All-head, All-tail, All-cons, All-nil}
use Rattle.std.proofs.lemmas.List.Sorted.{Contains-permutation}
use borrow.Author.Tests.{eqb-false}
use Rattle.kc_keep.specs.Only.{IsEntryOfThese, OfMeanings}
use Rattle.kc_model.specs.declared.footprint.Entry.{Entry}
use Rattle.kc_store.specs.Backs.{AreAllCallers}
use Rattle.kc_store.specs.Knows.{IsHistory, entries_of}
use Rattle.kc_store.specs.Views.{CallerView, PastView, StoreView}
use Rattle.kc_store.specs.kc_table_moves.Views.{count_from}
use Rattle.kc_xt.specs.Meaning.{Meaning}

counted : (k n j : ℕ) → k ≤ j → j < k + n → Contains (count_from k n) j
counted k zero j le lt = absurd (omega (arith, le, lt))
counted k (suc n) j le lt = by_test (k == j) refl (λ more. counted (suc k) n j more (omega (arith, lt)))
  where
    by_test : (b : Bool) → (k == j) ≡ b → (suc k ≤ j → Contains (count_from (suc k) n) j) → Contains (count_from k (suc n)) j
    by_test true e rest = (zero, omega arith, grind (arith, nat_tests, e))
    by_test false e rest = let ne = eqb-false _ _ e in let r = rest (omega (arith, le, ne)) in (suc r.0, omega (arith, r.1), r.2)

with_number : (P : CallerView → Type 0) (callers : List CallerView) (k : ℕ) → All P callers → Contains (map (λ (c : CallerView). c.number) callers) k → (c : CallerView) × P c × (c.number ≡ k)
with_number P [] k all (i, lt, e) = absurd (omega (arith, lt))
with_number P (c ∷ cs) k all (zero, lt, e) = (c, All-head P c cs all, e)
with_number P (c ∷ cs) k all (suc i, lt, e) = with_number P cs k (All-tail P c cs all) (i, omega (arith, lt), e)

pub none_of : (k n : ℕ) (es : List Entry) → n ≤ k → All (λ (e : Entry). e.caller < n) es → entries_of k es ≡ []
none_of k n [] le below = refl
none_of k n (x ∷ xs) le below =
    let first = All-head (λ (e : Entry). e.caller < n) x xs below in
    let other : (x.caller == k) ≡ false = grind (arith, nat_tests, first, le) in
    rw other (none_of k n xs le (All-tail (λ (e : Entry). e.caller < n) x xs below))

module _ (P : Entry → Type 0) where
  head_of : (x : Entry) (es : List Entry) → All P (entries_of x.caller (x ∷ es)) → P x
  head_of x es of = by_test (x.caller == x.caller) (grind (arith, nat_tests)) of
    where
      by_test : (b : Bool) → b ≡ true → All P (cond b (x ∷ entries_of x.caller es) (entries_of x.caller es)) → P x
      by_test true e of = All-head P x (entries_of x.caller es) of
      by_test false e of = absurd (cc)

  tail_of : (k : ℕ) (x : Entry) (es : List Entry) → All P (entries_of k (x ∷ es)) → All P (entries_of k es)
  tail_of k x es of = by_test (x.caller == k) of
    where
      by_test : (b : Bool) → All P (cond b (x ∷ entries_of k es) (entries_of k es)) → All P (entries_of k es)
      by_test true of = All-tail P x (entries_of k es) of
      by_test false of = of

  together : (es : List Entry) → ((k : ℕ) → All P (entries_of k es)) → All P es
  together [] of = All-nil P
  together (x ∷ es) of = All-cons P x es (head_of x es (of x.caller)) (together es (λ k. tail_of k x es (of k)))

  -- what each of so many callers has of a list is such, and nobody else has any
  pub of_callers : (n : ℕ) (es : List Entry) → All (λ (e : Entry). e.caller < n) es → ((k : ℕ) → k < n → All P (entries_of k es)) → All P es
  of_callers n es below each = together es (λ k. of_caller k (nat_lt k n) refl)
    where
      of_caller : (k : ℕ) (b : Bool) → nat_lt k n ≡ b → All P (entries_of k es)
      of_caller k true e = each k (grind (arith, nat_tests, e))
      of_caller k false e = let above : n ≤ k = grind (arith, nat_tests, e) in subst (All P) (sym (none_of k n es above below)) (All-nil P)

module _ (is_one : Meaning → Type 0) where
  module _ (z : StoreView) (callers : List CallerView) (p : PastView) (all : AreAllCallers z callers) (history : IsHistory z callers p) (keeps : All (λ (c : CallerView). OfMeanings is_one c.own) callers) where
    abbrev Keeps : CallerView → Type 0
    Keeps c = (entries_of c.number p.history ≡ c.own) × OfMeanings is_one c.own

    of_caller : (k : ℕ) → k < z.callers → OfMeanings is_one (entries_of k p.history)
    of_caller k lt =
        let numbers = map (λ (c : CallerView). c.number) callers in
        let c = with_number Keeps callers k (λ i d lt. (history.own i d lt, keeps i d lt)) (Contains-permutation (count_from 0 z.callers) numbers k all.all (counted 0 z.callers k (omega arith) (omega (arith, lt)))) in
        subst (λ i. OfMeanings is_one (entries_of i p.history)) c.2 (subst (OfMeanings is_one) (sym c.1.0) c.1.1)

    pub of_store : OfMeanings is_one p.history
    of_store = of_callers (IsEntryOfThese is_one) z.callers p.history history.nobody_else of_caller
