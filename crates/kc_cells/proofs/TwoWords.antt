-- A number of 64 bits and its two words.
use Rattle.std.proofs.Common.{◌≡◌, ℕ, ◌<◌, ◌^◌, List, [], ◌∷◌, length, slice_get, Some, arith}
use Rattle.kc_cells.specs.Wide.{high_word, low_word, two_words, wrapped_wide}

-- a number is that of its words
pub number_back : (n : ℕ) → n < 2 ^ 64 → two_words (low_word n) (high_word n) ≡ n
number_back n h = omega (arith, h)

-- what wraps has the same words
pub low_wrapped : (n : ℕ) → low_word n ≡ low_word (wrapped_wide n)
low_wrapped n = omega arith

pub high_wrapped : (n : ℕ) → high_word n ≡ high_word (wrapped_wide n)
high_wrapped n = omega arith

pub below_wide : (n : ℕ) → wrapped_wide n < 2 ^ 64
below_wide n = omega arith

pub wrapped_twice : (n : ℕ) → wrapped_wide (wrapped_wide n) ≡ wrapped_wide n
wrapped_twice n = omega arith

-- a list of two
pub two_of : {A : Type 0} (xs : List A) (a b : A) → length xs ≡ 2 → slice_get xs 0 ≡ Some a → slice_get xs 1 ≡ Some b → xs ≡ a ∷ b ∷ []
two_of [] a b l h g = absurd (omega (arith, l))
two_of (x ∷ []) a b l h g = absurd (omega (arith, l))
two_of (x ∷ y ∷ []) a b l h g = cc
two_of (x ∷ y ∷ z ∷ xs) a b l h g = absurd (omega (arith, l))
