-- What the bank opens with.
use Rattle.std.proofs.Common.{◌≡◌, ℕ, zero, suc, ◌+◌, ◌*◌, ◌<◌, ◌^◌, List, ap, ◌∙◌, arith}
use Rattle.std.specs.Prelude.{replicate}
use Rattle.kc_store.specs.Knows.{OpensWith}
use Rattle.kc_store.specs.Views.{StoreView, store_opening}
use Rattle.kc_sums.specs.Sums.{HasTotal, accounts_sum}
use Rattle.kc_sums.specs.declared.bank.Bank.{Bank}
use Rattle.kc_xt.specs.Meaning.{values}
use Rattle.std.proofs.lemmas.Grind.{common_steps}
use Rattle.std.proofs.Math.Nat.{suc-mul}

pub sum_each : (n v : ℕ) (m : ℕ → ℕ) → ((l : ℕ) → l < n → m l ≡ v) → accounts_sum n m ≡ n * v
sum_each zero v m all = omega arith
sum_each (suc n) v m all =
    let ih = sum_each n v m (λ l lt. all l (omega (arith, lt))) in
    let top : m n ≡ v = all n (omega arith) in
    let e = suc-mul n v in
    omega (arith, ih, top, e)

pub opens : (b : Bank) (z : StoreView) (versions : List ℕ) (k : ℕ) → b.accounts * b.each < 2 ^ 32 → OpensWith (replicate b.accounts b.each) versions k z → HasTotal b (values (store_opening z))
opens b z versions k lt o = (lt, sum_each b.accounts b.each (values (store_opening z)) (λ l low. ap (λ (c : _). c.value) (o.cells l (grind (arith, common_steps, low))) ∙ grind (arith, common_steps, low)))
