-- The flags of threads lie apart from each other and from the number of live threads.
use Rattle.std.proofs.Common.{◌≡◌, ℕ, zero, suc, ◌+◌, ◌-◌, ◌*◌, ◌/◌, ◌%◌, ◌^◌, ◌<◌, ◌≤◌, ◌==◌, ◌||◌, ◌&&◌, not, min, Bool, true, false, refl, sym, ap, ◌∙◌, arith}
use Rattle.std.specs.Prelude.{bit_and, bit_or}
use Rattle.std.specs.Int.{bit_at, bit_not, w32}
use Rattle.std.specs.Int.Bits.{or_mod, and_mod, or_zero_r, and_mask}
use Rattle.std.proofs.lemmas.Bool.Decides.{nat_tests}
use Rattle.std.proofs.lemmas.Nat.{pow-add, pow_below, pow_pos}
use Rattle.std.proofs.lemmas.Nat.Bits.{bit_at_and, bit_at_or, bit_at_not, bit_at-lt, bit_at-pow_same, bit_at-pow_other, bit_at_cat_high, and_pow}
use Rattle.kc_script_bundle.specs.Live.{IsThreadNumber, live_threads, flag_bit, flag_of, is_flagged, flagged, cleared}
use Rattle.kc_script_bundle.specs.declared.live.TheConstants.{LIVE_BITS}

-- a flag lies above the bits that count
flag_above : (t : ℕ) → IsThreadNumber t → flag_of t % 2 ^ LIVE_BITS ≡ 0
flag_above t is =
    let place : flag_bit t ≡ t - 1 + LIVE_BITS = omega (arith, is.0) in
    let parts : flag_of t ≡ 2 ^ (t - 1) * 2 ^ LIVE_BITS = ap (λ k. 2 ^ k) place ∙ pow-add 2 (t - 1) LIVE_BITS in
    omega (arith, parts)

-- and within the value
pub flag_within : (t : ℕ) → IsThreadNumber t → flag_bit t < 32
flag_within t is = omega (arith, is.1)

-- a test of the bit tells it
pub flag_told : (t v : ℕ) → not (bit_and v (flag_of t) == 0) ≡ is_flagged t v
flag_told t v = by (bit_at v (flag_bit t)) (bit_at-lt v (flag_bit t)) (and_pow v (flag_bit t))
  where
    by : (b : ℕ) → b < 2 → bit_and v (flag_of t) ≡ b * flag_of t → not (bit_and v (flag_of t) == 0) ≡ (b == 1)
    by zero lt e = let none : bit_and v (flag_of t) ≡ 0 = omega (arith, e) in grind (arith, nat_tests, none)
    by (suc zero) lt e = let some : 0 < bit_and v (flag_of t) = omega (arith, e, pow_pos (flag_bit t)) in grind (arith, nat_tests, some)
    by (suc (suc b)) lt e = absurd (omega (arith, lt))

-- ---- the number of live threads stays

pub live_flagged : (t v : ℕ) → IsThreadNumber t → live_threads (flagged t v) ≡ live_threads v
live_flagged t v is = or_mod v (flag_of t) LIVE_BITS ∙ ap (bit_or (live_threads v)) (flag_above t is) ∙ or_zero_r (live_threads v)

pub live_cleared : (t v : ℕ) → IsThreadNumber t → live_threads (cleared t v) ≡ live_threads v
live_cleared t v is =
    let small = pow_below (flag_bit t) 32 (flag_within t is) in
    let ones : bit_not w32 (flag_of t) % 2 ^ LIVE_BITS ≡ 2 ^ LIVE_BITS - 1 = omega (arith, small, flag_above t is) in
    and_mod v (bit_not w32 (flag_of t)) LIVE_BITS ∙ ap (bit_and (live_threads v)) ones ∙ and_mask (live_threads v) LIVE_BITS ∙ omega arith

-- ---- the flags of others stay

own_flag : (a b : ℕ) → a ≡ b → bit_at (flag_of b) (flag_bit a) ≡ 1
own_flag a b same = ap (λ k. bit_at (flag_of b) (flag_bit k)) same ∙ bit_at-pow_same (flag_bit b)

apart : (a b : ℕ) → (a == b) ≡ false → flag_bit a ≡ flag_bit b → ⊥
apart a b ne e = let same : a ≡ b = omega (arith, e) in grind (arith, nat_tests, same, ne)

pub flagged_at : (a b v : ℕ) → is_flagged a (flagged b v) ≡ (a == b || is_flagged a v)
flagged_at a b v = by (a == b) refl
  where
    by : (t : Bool) → (a == b) ≡ t → is_flagged a (flagged b v) ≡ (t || is_flagged a v)
    by true e =
        let same : a ≡ b = grind (arith, nat_tests, e) in
        let set : bit_at (flagged b v) (flag_bit a) ≡ 1 = omega (arith, bit_at_or v (flag_of b) (flag_bit a), bit_at-lt v (flag_bit a), own_flag a b same) in
        grind (arith, nat_tests, set)
    by false e =
        let stays : bit_at (flagged b v) (flag_bit a) ≡ bit_at v (flag_bit a) = omega (arith, bit_at_or v (flag_of b) (flag_bit a), bit_at-pow_other (flag_bit b) (flag_bit a) (apart a b e)) in
        ap (λ n. n == 1) stays

pub cleared_at : (a b v : ℕ) → IsThreadNumber a → IsThreadNumber b → is_flagged a (cleared b v) ≡ (not (a == b) && is_flagged a v)
cleared_at a b v is other = by (a == b) refl
  where
    bit : bit_at (cleared b v) (flag_bit a) ≡ min (bit_at v (flag_bit a)) (1 - bit_at (flag_of b) (flag_bit a))
    bit = bit_at_and v (bit_not w32 (flag_of b)) (flag_bit a) ∙ ap (min (bit_at v (flag_bit a))) (bit_at_not w32 (flag_of b) (flag_bit a) (pow_below (flag_bit b) 32 (flag_within b other)) (flag_within a is))

    by : (t : Bool) → (a == b) ≡ t → is_flagged a (cleared b v) ≡ (not t && is_flagged a v)
    by true e =
        let same : a ≡ b = grind (arith, nat_tests, e) in
        let none : bit_at (cleared b v) (flag_bit a) ≡ 0 = omega (arith, bit, own_flag a b same) in
        grind (arith, nat_tests, none)
    by false e =
        let stays : bit_at (cleared b v) (flag_bit a) ≡ bit_at v (flag_bit a) = omega (arith, bit, bit_at-lt v (flag_bit a), bit_at-pow_other (flag_bit b) (flag_bit a) (apart a b e)) in
        ap (λ n. n == 1) stays

-- ---- one live thread less

-- nothing is borrowed from the flags
pub one_less_at : (t v : ℕ) → IsThreadNumber t → 1 ≤ live_threads v → is_flagged t (v - 1) ≡ is_flagged t v
one_less_at t v is some =
    let high = v / 2 ^ LIVE_BITS in
    let low = live_threads v in
    let whole : v ≡ high * 2 ^ LIVE_BITS + low = omega arith in
    let less : v - 1 ≡ high * 2 ^ LIVE_BITS + (low - 1) = omega (arith, some) in
    let above : LIVE_BITS ≤ flag_bit t = omega (arith, is.0) in
    let same : bit_at (v - 1) (flag_bit t) ≡ bit_at v (flag_bit t) =
    ap (λ n. bit_at n (flag_bit t)) less ∙ bit_at_cat_high high LIVE_BITS (low - 1) (flag_bit t) (omega arith) above ∙ sym (bit_at_cat_high high LIVE_BITS low (flag_bit t) (omega arith) above) ∙ sym (ap (λ n. bit_at n (flag_bit t)) whole) in
    ap (λ n. n == 1) same
