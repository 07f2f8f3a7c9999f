-- Callers that are dealt, each with its share of an era.
use Rattle.std.proofs.Common.{◌≡◌, ℕ, zero, suc, ◌+◌, ◌++◌, List, [], ◌∷◌, length, ◌∙◌, ap, sym, arith, refl}
use Rattle.std.specs.Prelude.{All}
use Rattle.std.proofs.lemmas.List.Elements.{All-cons}
use Rattle.kc_lasting.specs.Ends.{IsNewCaller}
use Rattle.kc_lasting.specs.Opening.{IsFirstClient, callers_of}
use Rattle.kc_lasting.specs.declared.client.Fresh.{Fresh}
use Rattle.kc_store.specs.Views.{CallerView, StoreView, opened_caller, opened_callers}

pub record Deals (z store : StoreView) (all : List CallerView) (given : List Fresh) (rest : List CallerView) : Type 0 where
  pub era : store ≡ z
  pub count : length given + length rest ≡ length all
  pub given_are : All (IsFirstClient z) given
  pub rest_are : All (λ (c : CallerView). c.of ≡ z) rest
  pub new : All IsNewCaller rest
  pub dealt : callers_of given ++ rest ≡ all

pub all_opened : (z : StoreView) (k n : ℕ) → All (λ (c : CallerView). c.of ≡ z) (opened_callers z k n)
all_opened z k zero = λ i d lt. absurd (omega (arith, lt))
all_opened z k (suc n) = All-cons (λ (c : CallerView). c.of ≡ z) (opened_caller z k) (opened_callers z (suc k) n) refl (all_opened z (suc k) n)

pub all_new : (z : StoreView) (k n : ℕ) → All IsNewCaller (opened_callers z k n)
all_new z k zero = λ i d lt. absurd (omega (arith, lt))
all_new z k (suc n) = All-cons IsNewCaller (opened_caller z k) (opened_callers z (suc k) n) (record { own = refl; past = refl }) (all_new z (suc k) n)

pub all_of : (z y : StoreView) → y ≡ z → (xs : List Fresh) → All (IsFirstClient z) xs → All (λ (x : Fresh). x.client.caller.of ≡ y) xs
all_of z y e xs all = λ i d lt. (all i d lt).of ∙ sym e

pub as_many_opened : (z : StoreView) (k n : ℕ) → length (opened_callers z k n) ≡ n
as_many_opened z k zero = refl
as_many_opened z k (suc n) = ap suc (as_many_opened z (suc k) n)

-- one more of them has its client
pub deal_one : (xs : List Fresh) (x : Fresh) (rest : List CallerView) → callers_of (xs ++ x ∷ []) ++ rest ≡ callers_of xs ++ x.client.caller ∷ rest
deal_one [] x rest = refl
deal_one (y ∷ xs) x rest = ap (λ (cs : List CallerView). y.client.caller ∷ cs) (deal_one xs x rest)

-- ---- the last one is the keeper

pub last_opened : (z : StoreView) (xs : List Fresh) (x : Fresh) (k n : ℕ) → callers_of (xs ++ x ∷ []) ≡ opened_callers z k n → (x.client.caller.number + 1 ≡ k + n) × (x.client.caller.own ≡ [])
last_opened z [] x k zero e = absurd (cc)
last_opened z [] x k (suc zero) e =
    let is : x.client.caller ≡ opened_caller z k = cc in
    let number = ap (λ (c : CallerView). c.number) is in
    (omega (arith, number), ap (λ (c : CallerView). c.own) is)
last_opened z [] x k (suc (suc n)) e = absurd (cc)
last_opened z (y ∷ xs) x k zero e = absurd (cc)
last_opened z (y ∷ xs) x k (suc n) e =
    let rest : callers_of (xs ++ x ∷ []) ≡ opened_callers z (suc k) n = cc in
    let (number, own) = last_opened z xs x (suc k) n rest in
    (omega (arith, number), own)
