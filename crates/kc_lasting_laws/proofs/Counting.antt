-- How many entries there are, and how many versions they make.
use Rattle.std.proofs.Common.{◌≡◌, ◌≤◌, ◌<◌, ◌==◌, ℕ, zero, suc, ◌+◌, ◌*◌, Bool, true, false, cond, List, [], ◌∷◌, Option, None, Some, length, nat_lt, refl, ap, arith}
use Rattle.std.proofs.Math.Nat.{suc-mul}
use Rattle.std.proofs.lemmas.Bool.Decides.{nat_tests}
use Rattle.std.proofs.lemmas.List.Elements.{All-head, All-tail}
use Rattle.std.specs.List.{filter}
use Rattle.std.specs.Prelude.{All}
use Rattle.kc_model.specs.Footprint.{put_at}
use Rattle.kc_model.specs.Store.{Store, after, cell_after}
use Rattle.kc_model.specs.declared.footprint.Entry.{Entry}
use Rattle.kc_model.specs.declared.footprint.Put.{Put}
use Rattle.kc_model.specs.declared.plain_store.Cell.{Cell}
use Rattle.kc_store.specs.Knows.{entries_of}
use Rattle.kc_store.specs.kc_machine_traces.Histories.{made}

one_more : (o : Option Put) (c : Cell) → (cell_after o c).version ≤ c.version + 1
one_more None c = omega arith
one_more (Some p) c = omega arith

pub made_at_most : (es : List Entry) (s : Store) (l : ℕ) → (made s es l).version ≤ (s l).version + length es
made_at_most [] s l = omega arith
made_at_most (x ∷ es) s l =
    let a = one_more (put_at x.footprint.puts.items l) (s l) in
    let b = made_at_most es (after x.footprint s) l in
    omega (arith, a, b)

-- ---- entries of callers

abbrev of_below : ℕ → List Entry → List Entry
of_below n es = filter (λ (e : Entry). nat_lt e.caller n) es

one_longer : (p : Entry → Bool) (x : Entry) (es : List Entry) → length (filter p (x ∷ es)) ≡ cond (p x) 1 0 + length (filter p es)
one_longer p x es = go (p x)
  where
    go : (b : Bool) → length (cond b (x ∷ filter p es) (filter p es)) ≡ cond b 1 0 + length (filter p es)
    go true = omega arith
    go false = omega arith

not_below_zero : (n : ℕ) → nat_lt n 0 ≡ false
not_below_zero n = grind (arith, nat_tests)

is_below : (k n : ℕ) → k < n → nat_lt k n ≡ true
is_below k n lt = grind (arith, nat_tests)

none_below : (es : List Entry) → length (of_below 0 es) ≡ 0
none_below [] = refl
none_below (x ∷ es) =
    let a = one_longer (λ (e : Entry). nat_lt e.caller 0) x es in
    let b = not_below_zero x.caller in
    let c : cond {A = ℕ} (nat_lt x.caller 0) 1 0 ≡ 0 = ap (λ (t : Bool). cond {A = ℕ} t 1 0) b in
    let d = none_below es in
    omega (arith, a, c, d)

parts : (c n : ℕ) (i j k : Bool) → nat_lt c (suc n) ≡ i → nat_lt c n ≡ j → (c == n) ≡ k → cond i 1 0 ≡ cond j 1 0 + cond k 1 0
parts c n true true true ei ej ek = absurd (grind (arith, nat_tests))
parts c n true true false ei ej ek = refl
parts c n true false true ei ej ek = refl
parts c n true false false ei ej ek = absurd (grind (arith, nat_tests))
parts c n false true k ei ej ek = absurd (grind (arith, nat_tests))
parts c n false false true ei ej ek = absurd (grind (arith, nat_tests))
parts c n false false false ei ej ek = refl

one_caller_more : (n : ℕ) (es : List Entry) → length (of_below (suc n) es) ≡ length (of_below n es) + length (entries_of n es)
one_caller_more n [] = refl
one_caller_more n (x ∷ es) =
    let a = one_longer (λ (e : Entry). nat_lt e.caller (suc n)) x es in
    let b = one_longer (λ (e : Entry). nat_lt e.caller n) x es in
    let c = one_longer (λ (e : Entry). e.caller == n) x es in
    let d = parts x.caller n _ _ _ refl refl refl in
    let e = one_caller_more n es in
    omega (arith, a, b, c, d, e)

all_below : (n : ℕ) (es : List Entry) → All (λ (e : Entry). e.caller < n) es → length (of_below n es) ≡ length es
all_below n [] all = refl
all_below n (x ∷ es) all =
    let a = one_longer (λ (e : Entry). nat_lt e.caller n) x es in
    let b : nat_lt x.caller n ≡ true = is_below _ _ (All-head (λ (e : Entry). e.caller < n) x es all) in
    let c : cond {A = ℕ} (nat_lt x.caller n) 1 0 ≡ 1 = ap (λ (t : Bool). cond {A = ℕ} t 1 0) b in
    let d = all_below n es (All-tail (λ (e : Entry). e.caller < n) x es all) in
    omega (arith, a, c, d)

few_below : (n m : ℕ) (es : List Entry) → ((k : ℕ) → k < n → length (entries_of k es) ≤ m) → length (of_below n es) ≤ n * m
few_below zero m es few = let a = none_below es in omega (arith, a)
few_below (suc n) m es few =
    let a = one_caller_more n es in
    let b = few n (omega arith) in
    let c = few_below n m es (λ k lt. few k (omega (arith, lt))) in
    let d : suc n * m ≡ n * m + m = suc-mul n m in
    omega (arith, a, b, c, d)

pub at_most : (n m : ℕ) (es : List Entry) → All (λ (e : Entry). e.caller < n) es → ((k : ℕ) → k < n → length (entries_of k es) ≤ m) → length es ≤ n * m
at_most n m es all few =
    let a = all_below n es all in
    let b = few_below n m es few in
    omega (arith, a, b)
