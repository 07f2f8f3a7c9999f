-- Whether one of several handles is open.
use Rattle.std.proofs.Common.{◌≡◌, ℕ, zero, suc, ◌+◌, ◌<◌, ◌==◌, ◌||◌, Bool, true, false, List, [], ◌∷◌, arith, length, set, take, refl}
use Rattle.kc_c.specs.Clients.{some_open}
use Rattle.kc_c.specs.declared.handle.KcasCaller.{KcasCaller}

-- behind one that is closed
either_false : (a b c : Bool) → (a || b) ≡ false → (b ≡ false → c ≡ false) → (a || c) ≡ false
either_false false b c e k = k e
either_false true b c e k = e

-- one more is closed
pub closed_more : (hs : List KcasCaller) (i : ℕ) (h : KcasCaller) → i < length hs → (h.held == 1) ≡ false → some_open (take i hs) ≡ false → some_open (take (i + 1) (set hs i h)) ≡ false
closed_more [] i h lt e all = absurd (omega (arith, lt))
closed_more (x ∷ hs) zero h lt e all = rw e refl
closed_more (x ∷ hs) (suc i) h lt e all = let later : suc i + 1 ≡ suc (i + 1) = omega arith in rw later (either_false (x.held == 1) (some_open (take i hs)) _ all (λ rest. closed_more hs i h (omega (arith, lt)) e rest))
