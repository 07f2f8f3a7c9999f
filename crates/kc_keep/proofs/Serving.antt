-- Callers that served are all of the store's.
use Rattle.std.proofs.Common.{◌≡◌, ℕ, suc, ◌+◌, List, [], ◌∷◌, length, map, refl, sym, ap, subst, ◌∙◌, arith}
use Rattle.std.specs.Prelude.{All, IsPermutation, replicate}
use Rattle.std.proofs.lemmas.List.Elements.{All-cons, All-nil}
use Rattle.std.proofs.lemmas.List.Sorted.{IsPermutation-refl}
use Rattle.kc_keep.specs.Unworn.{OpensUnworn}
use Rattle.kc_keep.specs.Only.{HasOnly, ServeFrom, Serves}
use Rattle.kc_keep.proofs.Told.{both_added}
use Rattle.kc_lay.specs.Placed.{OpensAsLaid}
use Rattle.kc_store.proofs.Remembering.{remembers_on}
use Rattle.kc_store.specs.Backs.{AreAllCallers}
use Rattle.kc_store.specs.Knows.{OpensWith}
use Rattle.kc_store.specs.Views.{CallerView, StoreView, opened_caller, store_opening}
use Rattle.kc_store.specs.kc_table_moves.Views.{OpensAt, count_from}
use Rattle.kc_xt.specs.Meaning.{Meaning, values}

module _ (is_one : Meaning → Type 0) (z : StoreView) where
  abbrev numbers : List CallerView → List ℕ
  numbers = map (λ (c : CallerView). c.number)

  counted : (k : ℕ) (ds : List CallerView) → ServeFrom is_one z k ds → numbers ds ≡ count_from k (length ds)
  counted k [] served = refl
  counted k (d ∷ ds) (one, rest) = let here : d.number ≡ k = one.remembers.number in rw (here, counted (suc k) ds rest) refl

  many : (k : ℕ) (ds : List CallerView) → ServeFrom is_one z k ds → z.callers ≡ k + length ds
  many k [] served = omega (arith, served)
  many k (d ∷ ds) (one, rest) = let more = many (suc k) ds rest in omega (arith, more)

  each : (P : CallerView → Type 0) → ((k : ℕ) (d : CallerView) → Serves is_one (opened_caller z k) d → P d) → (k : ℕ) (ds : List CallerView) → ServeFrom is_one z k ds → All P ds
  each P has k [] served = All-nil P
  each P has k (d ∷ ds) (one, rest) = All-cons P d ds (has k d one) (each P has (suc k) ds rest)

  pub all_served : (ds : List CallerView) → ServeFrom is_one z 0 ds → AreAllCallers z ds
  all_served ds served =
      let all : z.callers ≡ length ds = omega (arith, many 0 ds served) in
      record {
        of = each (λ (c : CallerView). c.of ≡ z) (λ k d one. one.remembers.of) 0 ds served;
        all = subst (IsPermutation (count_from 0 z.callers)) (ap (count_from 0) all ∙ sym (counted 0 ds served)) (IsPermutation-refl (count_from 0 z.callers));
      }

  pub only_served : ((k : ℕ) (d : CallerView) → Serves is_one (opened_caller z k) d → HasOnly is_one d) → (ds : List CallerView) → ServeFrom is_one z 0 ds → All (HasOnly is_one) ds
  only_served has ds served = each (HasOnly is_one) has 0 ds served

-- what one call served and then the next
pub serves_then : (is_one : Meaning → Type 0) (c d e : CallerView) → Serves is_one c d → Serves is_one d e → Serves is_one c e
serves_then is_one c d e first second = record { remembers = remembers_on c d e first.remembers second.remembers; only = both_added is_one c d e first.only second.only }

-- a store that opened with these values opens as laid
pub opens_so : (z : StoreView) (us vs versions : List ℕ) (k : ℕ) → us ≡ vs → OpensWith us versions k z → OpensAsLaid vs (values (store_opening z))
opens_so z us vs versions k e so = subst (λ xs. OpensAsLaid xs (values (store_opening z))) e (record { cells = λ l lt. ap (λ (x : _). x.value) (so.cells l lt) })

-- and so opens fresh
pub opens_unworn : (z : StoreView) (us vs : List ℕ) (k : ℕ) → us ≡ vs → OpensAt us (replicate (length us) 0) k 0 z.table → OpensWith us (replicate (length us) 0) k z → OpensUnworn vs k z
opens_unworn z us vs k e at so = subst (λ xs. OpensUnworn xs k z) e (record { versions = so; lives = at })
