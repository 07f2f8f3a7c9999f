-- From the callers of a store to its one history.
use Rattle.std.proofs.Common.{◌≡◌, ℕ, zero, suc, ◌+◌, ◌<◌, ◌≤◌, Bool, true, false, List, [], ◌∷◌, map, refl, sym, subst, arith}
use Rattle.std.specs.Prelude.{◌==◌, nat_lt, All, Contains}
use Rattle.std.proofs.lemmas.Bool.Decides.{nat_tests}
use Rattle.std.proofs.lemmas.List.Elements.{All-head, All-tail}
use Rattle.std.proofs.lemmas.List.Sorted.{Contains-permutation}
use borrow.Author.Tests.{eqb-false}
use Rattle.kc_model.specs.declared.footprint.Entry.{Entry}
use Rattle.kc_shelf.specs.kc_store.Backs.{AreAllCallers}
use Rattle.kc_shelf.specs.kc_store.Knows.{IsHistory, entries_of}
use Rattle.kc_shelf.specs.kc_store.Views.{CallerView, PastView, StoreView}
use Rattle.kc_shelf.specs.kc_store.kc_table_moves.Views.{count_from}
use Rattle.kc_shelf.specs.declared.shelf.Shelf.{Shelf}
use Rattle.kc_shelf_laws.proofs.Names.{together}
use Rattle.kc_shelf_laws.specs.Names.{CallerKeepsNames, KeepNames, empty_hand, empty_hands}

counted : (k n j : ℕ) → k ≤ j → j < k + n → Contains (count_from k n) j
counted k zero j le lt = absurd (omega (arith, le, lt))
counted k (suc n) j le lt = by_test (k == j) refl (λ more. counted (suc k) n j more (omega (arith, lt)))
  where
    by_test : (b : Bool) → (k == j) ≡ b → (suc k ≤ j → Contains (count_from (suc k) n) j) → Contains (count_from k (suc n)) j
    by_test true e rest = (zero, omega arith, grind (arith, nat_tests, e))
    by_test false e rest = let ne = eqb-false _ _ e in let r = rest (omega (arith, le, ne)) in (suc r.0, omega (arith, r.1), r.2)

with_number : (P : CallerView → Type 0) (callers : List CallerView) (k : ℕ) → All P callers → Contains (map (λ (c : CallerView). c.number) callers) k → (c : CallerView) × P c × (c.number ≡ k)
with_number P [] k all (i, lt, e) = absurd (omega (arith, lt))
with_number P (c ∷ cs) k all (zero, lt, e) = (c, All-head P c cs all, e)
with_number P (c ∷ cs) k all (suc i, lt, e) = with_number P cs k (All-tail P c cs all) (i, omega (arith, lt), e)

none_of : (k n : ℕ) (es : List Entry) → n ≤ k → All (λ (e : Entry). e.caller < n) es → entries_of k es ≡ []
none_of k n [] le below = refl
none_of k n (x ∷ xs) le below =
    let first = All-head (λ (e : Entry). e.caller < n) x xs below in
    let other : (x.caller == k) ≡ false = grind (arith, nat_tests, first, le) in
    rw other (none_of k n xs le (All-tail (λ (e : Entry). e.caller < n) x xs below))

module _ (t : Shelf) (ps : List ℕ) (z : StoreView) (callers : List CallerView) (p : PastView) (all : AreAllCallers z callers) (history : IsHistory z callers p) (keeps : All (λ (c : CallerView). CallerKeepsNames t ps empty_hand c.own) callers) where
  abbrev Keeps : CallerView → Type 0
  Keeps c = (entries_of c.number p.history ≡ c.own) × CallerKeepsNames t ps empty_hand c.own

  of_caller : (k : ℕ) (b : Bool) → nat_lt k z.callers ≡ b → CallerKeepsNames t ps empty_hand (entries_of k p.history)
  of_caller k true e =
      let there : k < 0 + z.callers = grind (arith, nat_tests, e) in
      let numbers = map (λ (c : CallerView). c.number) callers in
      let c = with_number Keeps callers k (λ i d lt. (history.own i d lt, keeps i d lt)) (Contains-permutation (count_from 0 z.callers) numbers k all.all (counted 0 z.callers k (omega arith) there)) in
      subst (λ i. CallerKeepsNames t ps empty_hand (entries_of i p.history)) c.2 (subst (CallerKeepsNames t ps empty_hand) (sym c.1.0) c.1.1)
  of_caller k false e =
      let above : z.callers ≤ k = grind (arith, nat_tests, e) in
      subst (CallerKeepsNames t ps empty_hand) (sym (none_of k z.callers p.history above history.nobody_else)) tt

  pub of_store : KeepNames t ps empty_hands p.history
  of_store = together t ps p.history empty_hands (λ k. of_caller k (nat_lt k z.callers) refl)
