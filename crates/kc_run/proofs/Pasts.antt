-- The values and the one history of a lock-free store whose callers came back.
use Rattle.std.proofs.Common.{◌≡◌, ℕ, zero, suc, ◌+◌, ◌<◌, ◌==◌, cond, List, [], ◌∷◌, length, map, get_or, refl, sym, ap, ◌∙◌, subst, arith}
use Rattle.std.specs.Prelude.{All, IsPermutation}
use Rattle.std.proofs.lemmas.List.{length-map}
use Rattle.std.proofs.lemmas.List.Elements.{All-head, All-tail, All-weaker}
use Rattle.std.proofs.lemmas.List.Sorted.{IsPermutation-refl}
use Rattle.kc_history.specs.Callers.{IsLegalFrom, of_caller}
use Rattle.kc_model.specs.Footprint.{IsBelow, put_at}
use Rattle.kc_model.specs.Legal.{IsLegal}
use Rattle.kc_model.specs.Store.{Finds, Store, after, cell_after, opened, store_of}
use Rattle.kc_model.specs.declared.footprint.Entry.{Entry}
use Rattle.kc_run.specs.Kcas.{BelongsTo, OpensAtZero, values_at, values_of}
use Rattle.kc_store.specs.Backs.{AreAllCallers}
use Rattle.kc_store.specs.Knows.{IsHistory, entries_of}
use Rattle.kc_store.specs.Views.{CallerView, PastView, StoreView, last, store_opening}
use Rattle.kc_table_moves.specs.Origins.{Origin, opening_of}
use Rattle.kc_table_moves.specs.Views.{count_from}

-- ---- values

length_counted : (k n : ℕ) → length (count_from k n) ≡ n
length_counted k zero = refl
length_counted k (suc n) = ap suc (length_counted (suc k) n)

pub values_count : (q : Origin) → length (values_at q) ≡ q.locations
values_count q = length-map (count_from 0 q.locations) (opening_of q).value ∙ length_counted 0 q.locations

mapped : (f : ℕ → ℕ) (k : ℕ) (xs : List ℕ) → ((l : ℕ) → l < length xs → f (k + l) ≡ get_or xs l 0) → map f (count_from k (length xs)) ≡ xs
mapped f k [] h = refl
mapped f k (x ∷ xs) h =
    let here : k ≡ k + 0 = omega arith in
    let first : f k ≡ x = ap f here ∙ h 0 (omega arith) in
    let rest = mapped f (suc k) xs (λ l lt. let at : suc k + l ≡ k + suc l = omega arith in ap f at ∙ h (suc l) (omega (arith, lt))) in
    λ i. first i ∷ rest i

pub values_are : (q : Origin) (values : List ℕ) → q.locations ≡ length values → ((l : ℕ) → l < length values → (opening_of q).value l ≡ get_or values l 0) → values_at q ≡ values
values_are q values n each = ap (λ m. map (opening_of q).value (count_from 0 m)) n ∙ mapped (opening_of q).value 0 values (λ l lt. let at : 0 + l ≡ l = omega arith in ap (opening_of q).value at ∙ each l lt)

cells_at : (f : ℕ → ℕ) (k n l : ℕ) → l < n → store_of (opened (map f (count_from k n))) l ≡ record { version = 0; value = f (k + l) }
cells_at f k zero l lt = absurd (omega (arith, lt))
cells_at f k (suc n) zero lt = let at : k ≡ k + 0 = omega arith in ap (λ m. record { version = 0; value = f m }) at
cells_at f k (suc n) (suc l) lt =
    let at : suc k + l ≡ k + suc l = omega arith in
    cells_at f (suc k) n l (omega (arith, lt)) ∙ ap (λ m. record { version = 0; value = f m }) at

-- ---- legality

-- entries that lie below n are as legal on another store that has the same there
legal_there : (n : ℕ) (s t e : Store) (h : List Entry) → ((l : ℕ) → l < n → s l ≡ t l) → All (λ (x : Entry). IsBelow n x.footprint) h → IsLegal s h e → (d : Store) × IsLegal t h d
legal_there n s t e [] same below legal = (t, refl)
legal_there n s t e (x ∷ xs) same below (finds, legal) =
    let P = λ (y : Entry). IsBelow n y.footprint in
    let there : Finds x.footprint t = λ r i. sym (same r.loc.0 (All-head P x xs below r i)) ∙ finds r i in
    let rest = legal_there n (after x.footprint s) (after x.footprint t) e xs (λ l lt. ap (cell_after (put_at x.footprint.puts.items l)) (same l lt)) (All-tail P x xs below) legal in
    (rest.0, (there, rest.1))

-- what a store's past says in its user's words, from these values at version 0
pub legal_from_values : (z : StoreView) (callers : List CallerView) (p : PastView) → OpensAtZero z → IsHistory z callers p → All (λ (e : Entry). IsBelow z.locations e.footprint) p.history → IsLegalFrom (values_of z) p.history
legal_from_values z callers p opens history within =
    let n = z.table.origin.locations in
    let at_zero : (l : ℕ) → l < n → store_opening z l ≡ store_of (opened (values_of z)) l =
    λ l lt. let at : 0 + l ≡ l = omega arith in
    ap (λ v. record { version = v; value = (opening_of z.table.origin).value l }) (opens.zeros l lt) ∙ sym (cells_at (opening_of z.table.origin).value 0 n l lt ∙ ap (λ m. record { version = 0; value = (opening_of z.table.origin).value m }) at) in
    let below : All (λ (e : Entry). IsBelow n e.footprint) p.history = subst (λ (x : StoreView). All (λ (e : Entry). IsBelow x.locations e.footprint) p.history) opens.shown within in
    legal_there n (store_opening z) (store_of (opened (values_of z))) (last p) p.history at_zero below history.legal

-- ---- callers

of_caller_is : (k : ℕ) (es : List Entry) → of_caller k es ≡ entries_of k es
of_caller_is k [] = refl
of_caller_is k (e ∷ es) = ap (λ l. cond (e.caller == k) (e ∷ l) l) (of_caller_is k es)

pub own_parts : (z : StoreView) (callers : List CallerView) (p : PastView) → IsHistory z callers p → All (λ (c : CallerView). of_caller c.number p.history ≡ c.own) callers
own_parts z callers p history = All-weaker (λ (c : CallerView). entries_of c.number p.history ≡ c.own) (λ (c : CallerView). of_caller c.number p.history ≡ c.own) (λ c own. of_caller_is c.number p.history ∙ own) callers history.own

-- ---- all callers

pub map_same : {A : Type 0} (xs : List A) → map (λ x. x) xs ≡ xs
map_same [] = refl
map_same (x ∷ xs) = ap (λ l. x ∷ l) (map_same xs)

pub are_all : (z : StoreView) (callers : List CallerView) → All (BelongsTo z) callers → map (λ (c : CallerView). c.number) callers ≡ count_from 0 z.callers → AreAllCallers z callers
are_all z callers belong all = record {
  of = All-weaker (BelongsTo z) (λ (c : CallerView). c.of ≡ z) (λ c b. b.of) callers belong;
  all = subst (IsPermutation (count_from 0 z.callers)) (sym all) (IsPermutation-refl (count_from 0 z.callers));
}
