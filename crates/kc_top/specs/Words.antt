-- What the words of the command line ask for. The first is the program's name, the second the command's.
use Rattle.std.specs.Prelude.{ℕ, ◌+◌, Bool, false, not, ◌&&◌, ◌||◌, ◌==◌, nat_le, List, [], ◌∷◌, length, drop, slice_get, slice_index_or, codes, Option, Some, None, if◌then◌else◌}
use Rattle.std.specs.List.{list_all}
use Rattle.std.specs.Str.{bytes_eq}
use Rattle.std.specs.Option.{option_map}
use Rattle.kc_script_bundle.specs.declared.bundle.TheConstants.{MOST_THREADS}
use Rattle.kc_script_lines.specs.Words.{number}
use Rattle.kc_top.specs.declared.command_line.Command.{Command}
use Rattle.kc_top.specs.declared.command_line.Command.TheVariants as command
use Rattle.kc_top.specs.declared.command_line.Origin.{Origin}
use Rattle.kc_top.specs.declared.command_line.Origin.TheVariants as origin
use Rattle.kc_top.specs.declared.command_line.StoreName.{StoreName}
use Rattle.kc_top.specs.declared.command_line.StoreName.TheVariants as store

-- whether the word at a place, counted from 0, is this
abbrev pub is_word : List (List ℕ) → ℕ → List ℕ → Bool
is_word words place text = is_text (slice_get words place) where
  is_text : Option (List ℕ) → Bool
  is_text None = false
  is_text (Some word) = bytes_eq word text

-- how many words behind the command's name are a store option: `--store=V`, or `--store` and V, where V is `lock` or `kcas`
abbrev pub option_words : List (List ℕ) → ℕ
option_words words =
    if is_word words 2 (codes "--store=lock") || is_word words 2 (codes "--store=kcas") then 1
    else if is_word words 2 (codes "--store") && (is_word words 3 (codes "lock") || is_word words 3 (codes "kcas")) then 2
    else 0

-- the store that the option names; without one it is the lock-free one
abbrev pub store_named : List (List ℕ) → StoreName
store_named words = if is_word words 2 (codes "--store=lock") || (is_word words 2 (codes "--store") && is_word words 3 (codes "lock")) then store.Lock else store.Kcas

-- a file's name isn't empty, and doesn't begin with `-`
abbrev pub is_file_name : List ℕ → Bool
is_file_name [] = false
is_file_name (byte ∷ bytes) = not (byte == 45)

-- a setup, and a file for each thread
abbrev pub are_names : List (List ℕ) → Bool
are_names words = nat_le 2 (length words) && nat_le (length words) (1 + MOST_THREADS) && list_all is_file_name words

-- the storm of the number that the word at this place spells, where it is the last one
abbrev pub storm_at : List (List ℕ) → ℕ → Option Origin
storm_at words place = if is_word words 1 (codes "storm") && (length words == place + 1) then option_map origin.Storm (number 4294967295 (slice_index_or words place [])) else None

-- from where the words ask a script to be run
abbrev pub origin_of : List (List ℕ) → Option Origin
origin_of words =
    if is_word words 1 (codes "run") && (length words == 2 + option_words words) then Some origin.Source
    else if is_word words 1 (codes "files") && are_names (drop (2 + option_words words) words) then Some (origin.Files (2 + option_words words))
    else storm_at words (2 + option_words words)

-- the command of this name, and just two names behind it
abbrev pub is_on_two : List (List ℕ) → List ℕ → Bool
is_on_two words name = is_word words 1 name && (length words == 4) && list_all is_file_name (drop 2 words)

-- the file of the bundle, and that of the text, that the words of a check name
abbrev pub bundle_name : List (List ℕ) → List ℕ
bundle_name words = slice_index_or words 2 []

abbrev pub text_name : List (List ℕ) → List ℕ
text_name words = slice_index_or words 3 []

-- the file of the texts, and that of the picks, that a run on texts names
abbrev pub texts_name : List (List ℕ) → List ℕ
texts_name words = slice_index_or words 2 []

abbrev pub picks_name : List (List ℕ) → List ℕ
picks_name words = slice_index_or words 3 []

-- what the words ask for; words that are no command ask for nothing
abbrev pub command_of : List (List ℕ) → Option Command
command_of words =
    if is_on_two words (codes "check") then Some command.Check
    else if is_on_two words (codes "texts") then Some command.Texts
    else option_map command.Run (origin_of words)
