-- Callers at home, in the order of their numbers.
use Rattle.std.proofs.Common.{◌≡◌, ℕ, zero, suc, ◌+◌, ◌<◌, List, [], ◌∷◌, ◌++◌, length, map, Option, Some, None, refl, sym, ap, subst, ◌∙◌, arith}
use Rattle.std.proofs.Math.ListN.{get_or}
use Rattle.std.specs.List.{All, AllZip}
use Rattle.std.specs.Prelude.{IsPermutation, IfSome}
use Rattle.std.proofs.lemmas.List.Elements.{All-nil, All-cons}
use Rattle.std.proofs.lemmas.List.Sorted.{IsPermutation-refl}
use Rattle.kc_callers.proofs.Places.{in_order_push}
use Rattle.kc_callers.specs.Homes.{AreAtHome, AreHomesOf}
use Rattle.kc_callers.specs.Lending.{FitsPlace}
use Rattle.kc_callers.specs.declared.home.Idle.{Idle}
use Rattle.kc_holder.specs.Lent.{HolderView}
use Rattle.kc_store.specs.Backs.{AreAllCallers}
use Rattle.kc_store.specs.Views.{CallerView, StoreView, opened_callers}
use Rattle.kc_store.specs.kc_table_moves.Views.{count_from}

abbrev pub Place : Type 0
Place = HolderView (StoreView × ℕ)

length_push : {A : Type 0} (xs : List A) (x : A) → length (xs ++ x ∷ []) ≡ suc (length xs)
length_push [] x = refl
length_push (y ∷ xs) x = ap suc (length_push xs x)

-- one more of each
pub many_push : {A B : Type 0} (xs after : List A) (x : A) (ys : List B) (y : B) → after ≡ xs ++ x ∷ [] → length xs ≡ length ys → length after ≡ length (ys ++ y ∷ [])
many_push xs after x ys y is many = ap length is ∙ length_push xs x ∙ ap suc many ∙ sym (length_push ys y)

-- who fits a home
abbrev pub Suits : StoreView × ℕ → Idle → Type 0
Suits home idle = (idle.caller.of ≡ home.0) × (idle.caller.number ≡ home.1)

module _ (z : StoreView) where
  -- ---- lists of callers

  -- the caller of number k first, and then each next one
  abbrev pub StandFrom : ℕ → List CallerView → Type 0
  StandFrom k [] = Unit {0}
  StandFrom k (c ∷ cs) = (c.of ≡ z) × (c.number ≡ k) × StandFrom (suc k) cs

  pub opened_stand : (k n : ℕ) → StandFrom k (opened_callers z k n)
  opened_stand k zero = tt
  opened_stand k (suc n) = (refl, refl, opened_stand (suc k) n)

  pub opened_many : (k n : ℕ) → length (opened_callers z k n) ≡ n
  opened_many k zero = refl
  opened_many k (suc n) = ap suc (opened_many (suc k) n)

  pub stands_at : (k : ℕ) (a : List CallerView) (c : CallerView) (b : List CallerView) → StandFrom k (a ++ c ∷ b) → (c.of ≡ z) × (c.number ≡ k + length a)
  stands_at k [] c b (of, number, rest) = (of, let n = number in omega (arith, n))
  stands_at k (x ∷ a) c b (of, number, rest) = let s = stands_at (suc k) a c b rest in let n = s.1 in (s.0, omega (arith, n))

  -- the one behind so many others, as they opened
  pub opened_at : (n : ℕ) (a : List CallerView) (c : CallerView) (b cs : List CallerView) → a ++ c ∷ b ≡ cs → cs ≡ opened_callers z 0 n → (c.of ≡ z) × (c.number ≡ length a)
  opened_at n a c b cs all is =
      let s = stands_at 0 a c b (subst (StandFrom 0) (sym (all ∙ is)) (opened_stand 0 n)) in
      let k = s.1 in (s.0, omega (arith, k))

  -- one more at the end
  pub stand_push : (k : ℕ) (cs : List CallerView) (c : CallerView) → StandFrom k cs → c.of ≡ z → c.number ≡ k + length cs → StandFrom k (cs ++ c ∷ [])
  stand_push k [] c s of number = (of, let n = number in omega (arith, n), tt)
  stand_push k (x ∷ cs) c (at, is, rest) of number = (at, is, stand_push (suc k) cs c rest of (let n = number in omega (arith, n)))

  stand_all : (k : ℕ) (cs : List CallerView) → StandFrom k cs → All (λ (c : CallerView). c.of ≡ z) cs
  stand_all k [] s = All-nil (λ (c : CallerView). c.of ≡ z)
  stand_all k (c ∷ cs) (of, number, rest) = All-cons (λ (c : CallerView). c.of ≡ z) c cs of (stand_all (suc k) cs rest)

  stand_numbers : (k : ℕ) (cs : List CallerView) → StandFrom k cs → count_from k (length cs) ≡ map (λ (c : CallerView). c.number) cs
  stand_numbers k [] s = refl
  stand_numbers k (c ∷ cs) (of, number, rest) = λ i. sym number i ∷ stand_numbers (suc k) cs rest i

  pub all_back : (cs : List CallerView) → StandFrom 0 cs → length cs ≡ z.callers → AreAllCallers z cs
  all_back cs s many = record {
    of = stand_all 0 cs s;
    all = subst (λ ns. IsPermutation (count_from 0 z.callers) ns) (subst (λ n. count_from 0 n ≡ map (λ (c : CallerView). c.number) cs) many (stand_numbers 0 cs s)) (IsPermutation-refl (count_from 0 z.callers));
  }

  -- ---- homes

  -- one home more
  pub homes_push : (hs : List Place) (h : Place) → AreHomesOf z hs → h.tag ≡ (z, length hs) → AreHomesOf z (hs ++ h ∷ [])
  homes_push hs h homes tag = in_order_push (λ k (x : Place). x.tag ≡ (z, k)) hs h homes tag

  -- what is lent of such a place is the caller of its number
  pub lent_is : (hs : List Place) (n : ℕ) (idle : Idle) → AreHomesOf z hs → FitsPlace Suits hs n idle → Suits (z, n) idle
  lent_is [] n idle homes (lt, fits) = absurd (omega (arith, lt))
  lent_is (h ∷ hs) n idle homes (lt, fits) = subst (λ tag. Suits tag idle) (homes n h lt) (fits h)

  -- and that caller may go back to it
  pub goes_home : (hs : List Place) (n : ℕ) (idle : Idle) → AreHomesOf z hs → n < length hs → Suits (z, n) idle → FitsPlace Suits hs n idle
  goes_home hs n idle homes lt suits = (lt, λ d. subst (λ tag. Suits tag idle) (sym (homes n d lt)) suits)

  -- who stands at these homes
  pub at_home : (k : ℕ) (hs : List Place) (os : List (Option Idle)) → ((n : ℕ) (d : Place) → n < length hs → (get_or hs n d).tag ≡ (z, k + n)) → AllZip (λ (h : Place) (o : Option Idle). IfSome o (Suits h.tag)) hs os → AreAtHome z k os × (length os ≡ length hs)
  at_home k [] [] homes all = (tt, refl)
  at_home k [] (o ∷ os) homes all = absurd all
  at_home k (h ∷ hs) [] homes all = absurd all
  at_home k (h ∷ hs) (o ∷ os) homes (suits, all) =
      let rest = at_home (suc k) hs os (λ n d lt. homes (suc n) d (omega (arith, lt)) ∙ ap (λ m. (z, m)) (omega arith)) all in
      ((who o suits, rest.0), ap suc rest.1)
    where
      who : (o : Option Idle) → IfSome o (Suits h.tag) → IfSome o (λ (i : Idle). (i.caller.of ≡ z) × (i.caller.number ≡ k))
      who None s = tt
      who (Some i) s = subst (λ tag. Suits tag i) (homes 0 h (omega arith) ∙ ap (λ m. (z, m)) (omega arith)) s

  -- the one behind so many others
  pub is_home : (k : ℕ) (a : List (Option Idle)) (i : Idle) (b os : List (Option Idle)) → AreAtHome z k os → a ++ Some i ∷ b ≡ os → (i.caller.of ≡ z) × (i.caller.number ≡ k + length a)
  is_home k a i b os home is = go k a (subst (AreAtHome z k) (sym is) home)
    where
      go : (k : ℕ) (a : List (Option Idle)) → AreAtHome z k (a ++ Some i ∷ b) → (i.caller.of ≡ z) × (i.caller.number ≡ k + length a)
      go k [] ((of, number), rest) = (of, let n = number in omega (arith, n))
      go k (x ∷ a) (at, rest) = let s = go (suc k) a rest in let n = s.1 in (s.0, omega (arith, n))
