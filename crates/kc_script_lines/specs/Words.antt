-- Lines, words, names and numbers.
use Rattle.std.specs.Prelude.{ℕ, ◌+◌, ◌*◌, ◌-◌, Bool, true, ◌&&◌, ◌||◌, not, List, [], ◌∷◌, length, filter, slice_index, Option, Some, None, nat_le, ◌==◌, if◌then◌else◌}
use Rattle.std.specs.List.{slice_split, list_all}

abbrev pub is_blank : ℕ → Bool
is_blank b = b == 32 || b == 9 || b == 13

-- the words of a line: what stands between blanks
abbrev pub words : List ℕ → List (List ℕ)
words line = filter (λ word. not (length word == 0)) (slice_split is_blank line)

-- the lines of the bytes; where the last one ends with a newline, an empty one follows, which is skipped
abbrev pub lines : List ℕ → List (List ℕ)
lines bytes = slice_split (λ b. b == 10) bytes

-- a line is skipped if it has no word, or its first word begins with a number sign
abbrev pub is_skipped : List (List ℕ) → Bool
is_skipped [] = true
is_skipped (word ∷ words) = slice_index word 0 == 35

abbrev pub is_within : ℕ → ℕ → ℕ → Bool
is_within first last b = nat_le first b && nat_le b last

abbrev pub is_letter : ℕ → Bool
is_letter b = is_within 97 122 b || is_within 65 90 b

abbrev pub is_name_byte : ℕ → Bool
is_name_byte b = is_letter b || is_within 48 57 b || b == 95

-- 1 to 32 letters, digits and underscores, the first a letter
abbrev pub is_name : List ℕ → Bool
is_name word = is_within 1 32 (length word) && is_letter (slice_index word 0) && list_all is_name_byte word

-- the number whose digits follow those of n
abbrev pub value_on : ℕ → List ℕ → ℕ
value_on n [] = n
value_on n (digit ∷ digits) = value_on (10 * n + (digit - 48)) digits

abbrev pub is_digit : ℕ → Bool
is_digit b = is_within 48 57 b

-- one to ten digits
abbrev pub is_numeral : List ℕ → Bool
is_numeral word = is_within 1 10 (length word) && list_all is_digit word

-- the number that a word spells, up to the limit
unfoldable pub number : ℕ → List ℕ → Option ℕ
number limit word = if is_numeral word && nat_le (value_on 0 word) limit then Some (value_on 0 word) else None
