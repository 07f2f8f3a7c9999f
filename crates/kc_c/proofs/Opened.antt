-- Handles that are opened one after another, and the callers that they get.
use Rattle.std.proofs.Common.{◌≡◌, ℕ, zero, suc, ◌+◌, ◌<◌, List, [], ◌∷◌, ◌++◌, ap, arith, drop, get_or, length, refl, set, subst, take, ◌∙◌}
use Rattle.kc_c.specs.Clients.{AreOpened, IsOpened}
use Rattle.kc_c.specs.declared.handle.KcasCaller.{KcasCaller}
use Rattle.kc_store.specs.Views.{CallerView, StoreView, opened_caller, opened_callers}

-- one more behind the first i
pub opened_more : (z : StoreView) (k i : ℕ) (h : KcasCaller) (hs : List KcasCaller) → i < length hs → AreOpened z k (take i hs) → IsOpened z (k + i) h → AreOpened z k (take (i + 1) (set hs i h))
opened_more z k i h [] lt all one = absurd (omega (arith, lt))
opened_more z k zero h (x ∷ hs) lt all one = (subst (λ n. IsOpened z n h) (omega arith) one, tt)
opened_more z k (suc i) h (x ∷ hs) lt all one = let later : suc i + 1 ≡ suc (i + 1) = omega arith in rw later (all.0, opened_more z (suc k) i h hs (omega (arith, lt)) all.1 (subst (λ n. IsOpened z n h) (omega arith) one))

pub opened_length : (z : StoreView) (k n : ℕ) → length (opened_callers z k n) ≡ n
opened_length z k zero = refl
opened_length z k (suc n) = ap suc (opened_length z (suc k) n)

-- the caller behind so many others
pub caller_at : (z : StoreView) (k n : ℕ) (a : List CallerView) (c : CallerView) (b : List CallerView) → a ++ c ∷ b ≡ opened_callers z k n → c ≡ opened_caller z (k + length a)
caller_at z k zero [] c b all = absurd (omega (arith, ap length all))
caller_at z k (suc n) [] c b all = ap (λ xs. get_or xs 0 c) all ∙ ap (opened_caller z) (omega arith)
caller_at z k zero (x ∷ a) c b all = absurd (omega (arith, ap length all))
caller_at z k (suc n) (x ∷ a) c b all = caller_at z (suc k) n a c b (ap (drop 1) all) ∙ ap (opened_caller z) (omega arith)
