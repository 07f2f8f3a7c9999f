-- The tests of a line that look at its words alone. What is wrong with a line is the first test that fails.
use Rattle.std.specs.Prelude.{ℕ, Bool, List, length, Option, Some, None, Result, Ok, Err, get_or, [], ◌∷◌, ◌&&◌, nat_lt, nat_le, if◌then◌else◌}
use Rattle.kc_script_lines.specs.Words.{is_numeral, value_on, number}
use Rattle.kc_script_lines.specs.declared.fault.Why.{Why}
use Rattle.kc_script_lines.specs.declared.fault.Why.TheVariants.{BadNumber, MissingWord, ExtraWord}

infixl 10 ◌>>=◌
abbrev pub ◌>>=◌ : {A B : Type 0} → Result A Why → (A → Result B Why) → Result B Why
(Ok x) >>= f = f x
(Err e) >>= f = Err e

-- a test that has to hold
abbrev pub wants : Bool → Why → Result (Unit {0}) Why
wants test why = if test then Ok tt else Err why

-- a value that has to be there
abbrev pub found : {A : Type 0} → Option A → Why → Result A Why
found None why = Err why
found (Some x) why = Ok x

-- so many words stand behind the first
abbrev pub counted : ℕ → List (List ℕ) → Result (Unit {0}) Why
counted count args = if nat_lt (length args) count then Err MissingWord else (if nat_lt count (length args) then Err ExtraWord else Ok tt)

abbrev pub word_at : List (List ℕ) → ℕ → List ℕ
word_at args i = get_or args i []

-- a number up to this one
unfoldable pub number_to : ℕ → List ℕ → Result ℕ Why
number_to most word = found (number most word) BadNumber

-- a number from 1 up to this one
unfoldable pub positive_to : ℕ → List ℕ → Result ℕ Why
positive_to most word = do
  n ← number_to most word
  some ← wants (nat_le 1 n) BadNumber
  Ok n

-- ---- tests as a list

-- what is wrong: the reason of the first test that fails
abbrev pub first_failing : List (Bool × Why) → Option Why
first_failing [] = None
first_failing (t ∷ tests) = if t.0 then first_failing tests else Some t.1

-- what was wrong, where something was
abbrev pub fault_of : {A : Type 0} → Result A Why → Option Why
fault_of (Ok x) = None
fault_of (Err why) = Some why

-- neither too few words stand behind the first, nor too many
abbrev pub count_tests : ℕ → List (List ℕ) → List (Bool × Why)
count_tests count args = (nat_le count (length args), MissingWord) ∷ (nat_le (length args) count, ExtraWord) ∷ []

-- the word is a number in this range
abbrev pub is_number : ℕ → ℕ → List ℕ → Bool
is_number least most word = is_numeral word && nat_le least (value_on 0 word) && nat_le (value_on 0 word) most
