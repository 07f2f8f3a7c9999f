-- The two files of a run on texts: one has a text a line, the other a number a line. Their faults, and what is written of them.
use Rattle.std.specs.Prelude.{◌≡◌, ℕ, suc, ◌-◌, nat_le, ◌==◌, cond, Bool, List, [], ◌∷◌, ◌++◌, length, map, Option, Some, None, slice_index_or}
use Rattle.std.specs.List.{flat_map}
use Rattle.kc_script_lines.specs.Tests.{first_failing, is_number}
use Rattle.kc_script_lines.specs.Words.{lines, value_on}
use Rattle.kc_script_lines.specs.declared.fault.Limit.TheVariants as limit
use Rattle.kc_script_lines.specs.declared.fault.ScriptError.{ScriptError}
use Rattle.kc_script_lines.specs.declared.fault.ScriptError.TheVariants as error
use Rattle.kc_script_lines.specs.declared.fault.Why.{Why}
use Rattle.kc_script_lines.specs.declared.fault.Why.TheVariants as why
use Rattle.kc_text.specs.declared.text.TheConstants.{MOST_BYTES}
use Rattle.kc_text.specs.declared.texts.TheConstants.{MOST_TEXTS}
use Rattle.kc_text_files.specs.declared.TheConstants.{MOST_PICKS}

-- ---- lines

-- without the empty line behind a last newline
abbrev pub whole : List (List ℕ) → List (List ℕ)
whole [] = []
whole (x ∷ []) = cond (length x == 0) [] (x ∷ [])
whole (x ∷ y ∷ xs) = x ∷ whole (y ∷ xs)

-- the lines of a file; the last one may lack its newline
abbrev pub file_lines : List ℕ → List (List ℕ)
file_lines bytes = whole (lines bytes)

-- ---- faults

-- what has to hold of the line of this number, in this order
abbrev pub text_tests : ℕ → List ℕ → List (Bool × Why)
text_tests n line = (nat_le n MOST_TEXTS, why.TooMany limit.Texts) ∷ (nat_le (length line) MOST_BYTES, why.TooMany limit.TextBytes) ∷ []

abbrev pub pick_tests : (texts : ℕ) → ℕ → List ℕ → List (Bool × Why)
pick_tests texts n line = (nat_le n MOST_PICKS, why.TooMany limit.Picks) ∷ (is_number 1 texts line, why.BadNumber) ∷ []

abbrev pub or_next : ℕ → Option Why → Option (ℕ × Why) → Option (ℕ × Why)
or_next n (Some w) rest = Some (n, w)
or_next n None rest = rest

-- the first line of which a test fails, with its number, the first of these lines being this one; and the first such test
abbrev pub first_faulty_line : (ℕ → List ℕ → List (Bool × Why)) → ℕ → List (List ℕ) → Option (ℕ × Why)
first_faulty_line tests n [] = None
first_faulty_line tests n (x ∷ xs) = or_next n (first_failing (tests n x)) (first_faulty_line tests (suc n) xs)

abbrev pub texts_fault : List ℕ → Option (ℕ × Why)
texts_fault bytes = first_faulty_line text_tests 1 (file_lines bytes)

abbrev pub picks_fault : (texts : ℕ) → List ℕ → Option (ℕ × Why)
picks_fault texts bytes = first_faulty_line (pick_tests texts) 1 (file_lines bytes)

-- the part, the line and what is wrong with it: the texts are part 1, the picks part 2
abbrev pub in_parts : Option (ℕ × Why) → Option (ℕ × Why) → Option (ℕ × ℕ × Why)
in_parts (Some (n, w)) rest = Some (1, n, w)
in_parts None (Some (n, w)) = Some (2, n, w)
in_parts None None = None

abbrev pub files_fault : (texts picks : List ℕ) → Option (ℕ × ℕ × Why)
files_fault texts picks = in_parts (texts_fault texts) (picks_fault (length (file_lines texts)) picks)

-- what reading one of them answers in place of what it has: its first fault; or memory ran out
abbrev pub IsRefused : Option (ℕ × Why) → ScriptError → Type 0
IsRefused fault (error.Fault line w) = fault ≡ Some (line, w)
IsRefused fault error.NoMemory = Unit {0}

-- ---- what is written

-- a line, as it stands in a file
abbrev pub file_line : List ℕ → List ℕ
file_line text = text ++ 10 ∷ []

-- what the lines spell
abbrev pub picks_in : List ℕ → List ℕ
picks_in bytes = map (value_on 0) (file_lines bytes)

-- the picked ones of these texts, a line for each
abbrev pub picked_lines : List (List ℕ) → List ℕ → List ℕ
picked_lines texts picks = flat_map (λ k. file_line (slice_index_or texts (k - 1) [])) picks

abbrev pub written_of : (texts picks : List ℕ) → List ℕ
written_of texts picks = picked_lines (file_lines texts) (picks_in picks)
