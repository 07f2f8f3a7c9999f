-- A transfer keeps the sum.
use Rattle.std.proofs.Common.{◌≡◌, ◌≢◌, ℕ, zero, suc, ◌+◌, ◌-◌, ◌*◌, ◌%◌, ◌<◌, ◌≤◌, ◌^◌, Bool, true, false, cond, List, [], refl, sym, ap, subst, ◌∙◌, arith}
use Rattle.std.specs.Prelude.{◌==◌, nat_le}
use Rattle.std.proofs.lemmas.Bool.Decides.{nat_tests}
use borrow.Author.Tests.{eqb-false}
use Rattle.kc_compose.proofs.Ran.{Ran, ran}
use Rattle.kc_compose.specs.Meaning.{both_meaning}
use Rattle.kc_keep.specs.Keeping.{IsKeptBy}
use Rattle.kc_loc.proofs.Values.{loc_has_value}
use Rattle.kc_loc.specs.Meaning.{loc_meaning, loc_value}
use Rattle.kc_loc.specs.declared.kinds.Rel.TheVariants.{Ge}
use Rattle.kc_loc.specs.declared.operation.LocOp.{LocOp}
use Rattle.kc_loc.specs.declared.operation.LocOp.TheVariants.{Check, FetchAdd}
use Rattle.kc_model.specs.declared.footprint.Loc.{Loc}
use Rattle.kc_model.specs.declared.reply.Reply.{Reply}
use Rattle.kc_model.specs.declared.reply.Reply.TheVariants as reply
use Rattle.kc_sums.specs.Sums.{HasTotal, IsTransfer, accounts_sum, transfer_meaning}
use Rattle.kc_sums.specs.declared.bank.Bank.{Bank}
use Rattle.kc_xt.specs.Meaning.{Meaning, Outcome, map_after, put, replied, retried, too_large, touched_after}
use Rattle.kc_xt.specs.Program.{wrapped}

-- ---- sums

sum_other : (n l v : ℕ) (m : ℕ → ℕ) → n ≤ l → accounts_sum n (put m l v) ≡ accounts_sum n m
sum_other zero l v m le = refl
sum_other (suc n) l v m le =
    let e : (l == n) ≡ false = grind (arith, nat_tests, le) in
    let ih = sum_other n l v m (omega (arith, le)) in
    rw e (omega (arith, ih))

pub sum_put : (n l v : ℕ) (m : ℕ → ℕ) → l < n → accounts_sum n (put m l v) + m l ≡ accounts_sum n m + v
sum_put zero l v m lt = absurd (omega (arith, lt))
sum_put (suc n) l v m lt = by_test (l == n) refl (λ less. sum_put n l v m less)
  where
    by_test : (b : Bool) → (l == n) ≡ b → (l < n → accounts_sum n (put m l v) + m l ≡ accounts_sum n m + v) → (accounts_sum n (put m l v) + cond (l == n) v (m n)) + m l ≡ (accounts_sum n m + m n) + v
    by_test true e rest =
        let q : l ≡ n = grind (arith, nat_tests, e) in
        let same = sum_other n l v m (omega (arith, q)) in
        let at : m l ≡ m n = ap m q in
        rw e (omega (arith, same, at))
    by_test false e rest =
        let ne = eqb-false _ _ e in
        let ih = rest (omega (arith, lt, ne)) in
        rw e (omega (arith, ih))

pub le_sum : (n l : ℕ) (m : ℕ → ℕ) → l < n → m l ≤ accounts_sum n m
le_sum n l m lt = let e = sum_put n l 0 m lt in omega (arith, e)

-- ---- one operation

pub fits : (o : Outcome) (a : Reply) → o ≡ replied a → o ≢ too_large
fits o a e = λ q. cc

waited : (b : Bool) (a : Reply) → cond b (replied reply.Unit) retried ≡ replied a → b ≡ true
waited true a e = refl
waited false a e = absurd (cc)

-- a check that replied held, and left all
checked : (l : Loc) (k n : ℕ) (m : ℕ → ℕ) (ks : List ℕ) (a : Reply) → (loc_meaning (Check l Ge k) n m ks).outcome ≡ replied a → (k ≤ m l.0) × (map_after m (loc_meaning (Check l Ge k) n m ks).touches ≡ m)
checked l k n m ks a e =
    let v = loc_has_value (Check l Ge k) n m ks (fits _ a e) in
    let held : nat_le k (m l.0) ≡ true = waited (nat_le k (m l.0)) a (sym v.0 ∙ e) in
    (grind (arith, nat_tests, held), v.1)

added : (l : Loc) (k n : ℕ) (m : ℕ → ℕ) (ks : List ℕ) (a : Reply) → (loc_meaning (FetchAdd l k) n m ks).outcome ≡ replied a → map_after m (loc_meaning (FetchAdd l k) n m ks).touches ≡ put m l.0 (wrapped (m l.0 + k))
added l k n m ks a e = (loc_has_value (FetchAdd l k) n m ks (fits _ a e)).1

-- ---- a transfer

less : (x k : ℕ) → k ≤ x → x < 2 ^ 32 → 0 < k → (x + (2 ^ 32 - k)) % 2 ^ 32 ≡ x - k
less x k le lt some = omega (arith, le, lt, some)

pub small : (x : ℕ) → x < 2 ^ 32 → x % 2 ^ 32 ≡ x
small x lt = omega (arith, lt)

moved : (n a b k total : ℕ) (m : ℕ → ℕ) → a < n → b < n → 0 < k → k < 2 ^ 32 → total < 2 ^ 32 → accounts_sum n m ≡ total → k ≤ m a → (let v : ℕ → ℕ = put m a (wrapped (m a + (2 ^ 32 - k))) in accounts_sum n (put v b (wrapped (v b + k))) ≡ total)
moved n a b k total m in_a in_b some fit lt is le =
    let top = le_sum n a m in_a in
    let new : wrapped (m a + (2 ^ 32 - k)) ≡ m a - k = less (m a) k le (omega (arith, top, is, lt)) some in
    let v : ℕ → ℕ = put m a (wrapped (m a + (2 ^ 32 - k))) in
    let first : accounts_sum n v + m a ≡ accounts_sum n m + wrapped (m a + (2 ^ 32 - k)) = sum_put n a _ m in_a in
    let left : accounts_sum n v + k ≡ total = omega (arith, first, new, is, le) in
    let high : v b ≤ accounts_sum n v = le_sum n b v in_b in
    let whole : wrapped (v b + k) ≡ v b + k = small (v b + k) (omega (arith, high, left, lt)) in
    let second : accounts_sum n (put v b (wrapped (v b + k))) + v b ≡ accounts_sum n v + wrapped (v b + k) = sum_put n b _ v in_b in
    omega (arith, second, whole, left)

transfer_keeps : (b : Bank) (from to : Loc) (k : ℕ) → from.0 < b.accounts → to.0 < b.accounts → 0 < k → k < 2 ^ 32 → IsKeptBy (HasTotal b) (transfer_meaning from to k)
transfer_keeps b from to k in_from in_to some fit n m ks a h e =
    let p : Meaning = loc_meaning (Check from Ge k) in
    let q : Meaning = loc_meaning (FetchAdd from (2 ^ 32 - k)) in
    let r : Meaning = loc_meaning (FetchAdd to k) in
    let one = ran (p n m ks).outcome (p n m ks).touches (λ c. both_meaning q r n (map_after m (p n m ks).touches) (touched_after ks (p n m ks).touches)) m a e in
    let check = checked from k n m ks one.said one.first in
    let w = map_after m (p n m ks).touches in
    let js = touched_after ks (p n m ks).touches in
    let two = ran (q n w js).outcome (q n w js).touches (λ c. r n (map_after w (q n w js).touches) (touched_after js (q n w js).touches)) w a one.second in
    let u = map_after w (q n w js).touches in
    let is = touched_after js (q n w js).touches in
    let took : u ≡ put w from.0 (wrapped (w from.0 + (2 ^ 32 - k))) = added from (2 ^ 32 - k) n w js two.said two.first in
    let gave : map_after u (r n u is).touches ≡ put u to.0 (wrapped (u to.0 + k)) = added to k n u is a two.second in
    let after_two : map_after m (transfer_meaning from to k n m ks).touches ≡ put u to.0 (wrapped (u to.0 + k)) = one.map ∙ two.map ∙ gave in
    let into : (ℕ → ℕ) → (ℕ → ℕ) = λ x. put x to.0 (wrapped (x to.0 + k)) in
    let out_of : (ℕ → ℕ) → (ℕ → ℕ) = λ x. put x from.0 (wrapped (x from.0 + (2 ^ 32 - k))) in
    let whole : map_after m (transfer_meaning from to k n m ks).touches ≡ into (out_of m) = after_two ∙ ap into (took ∙ ap out_of check.1) in
    subst (HasTotal b) (sym whole) (h.0, moved b.accounts from.0 to.0 k (b.accounts * b.each) m in_from in_to some fit h.0 h.1 check.0)

pub transfer_is_kept : (b : Bank) (m : Meaning) → IsTransfer b m → IsKeptBy (HasTotal b) m
transfer_is_kept b m t = subst (IsKeptBy (HasTotal b)) (sym t.is) (transfer_keeps b t.from t.to t.amount t.from_within t.to_within t.some t.fits)
