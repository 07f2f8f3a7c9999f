-- What follows of words that ask for files, and of what reading them answers.
use Rattle.std.proofs.Common.{◌≡◌, ℕ, ◌+◌, ◌≤◌, Bool, true, false, ◌&&◌, nat_le, ◌-◌, List, ◌<◌, length, get_or, map, take, drop, Result, Ok, Err, IfOk, IfErr, string_bytes, ap, sym, ◌∙◌, Option, Some, None, if◌then◌else◌, refl, subst, arith}
use Rattle.std.proofs.lemmas.Bool.Decides.{nat_tests}
use Rattle.std.proofs.lemmas.List.{get_or-map, length-map}
use Rattle.std.specs.Prelude.{◌==◌, codes, slice_index_or, []}
use Rattle.std.specs.List.{list_all, drop-map}
use Rattle.std.specs.Prelude.{String}
use Rattle.std.specs.Global.{Global}
use Rattle.kc_top.proofs.Parts.{slice_on}
use Rattle.kc_top.specs.declared.command_line.Command.TheVariants as command
use Rattle.kc_top.specs.declared.command_line.Origin.{Origin}
use Rattle.kc_top.specs.declared.command_line.Origin.TheVariants as origin
use Rattle.std.specs.Option.{option_map}
use Rattle.kc_script_lines.specs.Words.{number}
use Rattle.kc_top.specs.Words.{storm_at, command_of, are_names, is_file_name, is_on_two, is_word, option_words, origin_of}

same_setup : (j k : ℕ) → Some (origin.Files j) ≡ Some (origin.Files k) → j ≡ k
same_setup j k e = cc e

-- a storm asks for no files
no_files : (o : Option ℕ) (k : ℕ) → option_map origin.Storm o ≡ Some (origin.Files k) → ⊥
no_files None k e = cc e
no_files (Some n) k e = cc e

no_storm : (words : List (List ℕ)) (place k : ℕ) → storm_at words place ≡ Some (origin.Files k) → ⊥
no_storm words place k e = by (is_word words 1 (codes "storm") && (length words == place + 1)) e
  where
    by : (b : Bool) → (if b then option_map origin.Storm (number 4294967295 (slice_index_or words place [])) else None) ≡ Some (origin.Files k) → ⊥
    by true h = no_files (number 4294967295 (slice_index_or words place [])) k h
    by false h = cc h

picked : (b : Bool) (n : ℕ → Bool) (j k : ℕ) (rest : Option Origin) → (rest ≡ Some (origin.Files k) → ⊥) → n j ≡ b → (if b then Some (origin.Files j) else rest) ≡ Some (origin.Files k) → n k ≡ true
picked true n j k rest other is e = subst (λ (i : ℕ). n i ≡ true) (same_setup j k e) is
picked false n j k rest other is e = absurd (other e)

chosen : (a b : Bool) (n : ℕ → Bool) (j k : ℕ) (rest : Option Origin) → (rest ≡ Some (origin.Files k) → ⊥) → (if a then Some origin.Source else if b && n j then Some (origin.Files j) else rest) ≡ Some (origin.Files k) → n k ≡ true
chosen true b n j k rest other e = absurd (cc e)
chosen false true n j k rest other e = picked (n j) n j k rest other refl e
chosen false false n j k rest other e = absurd (other e)

few : (n : ℕ) (b : Bool) → (nat_le 2 n && nat_le n 17 && b) ≡ true → (2 ≤ n) × (n ≤ 17)
few n true e = (grind (arith, nat_tests), grind (arith, nat_tests))
few n false e = (grind (arith, nat_tests), grind (arith, nat_tests))

-- a setup and 1 to 16 files are named
pub files_named : (words : List (List ℕ)) (setup : ℕ) → origin_of words ≡ Some (origin.Files setup) → (2 ≤ length (drop setup words)) × (length (drop setup words) ≤ 17)
files_named words setup e =
    few (length (drop setup words)) (list_all is_file_name (drop setup words))
    (chosen (is_word words 1 (codes "run") && (length words == 2 + option_words words)) (is_word words 1 (codes "files")) (λ (i : ℕ). are_names (drop i words)) (2 + option_words words) setup (storm_at words (2 + option_words words)) (no_storm words (2 + option_words words) setup) e)

-- words that ask for a run say from where
pub runs_from : (words : List (List ℕ)) (o : Origin) → command_of words ≡ Some (command.Run o) → origin_of words ≡ Some o
runs_from words o e = by (is_on_two words (codes "check")) (is_on_two words (codes "texts")) (origin_of words) e
  where
    by : (a b : Bool) (m : Option Origin) → (if a then Some command.Check else if b then Some command.Texts else option_map command.Run m) ≡ Some (command.Run o) → m ≡ Some o
    by true b m h = absurd (cc h)
    by false true m h = absurd (cc h)
    by false false None h = absurd (cc h)
    by false false (Some p) h = cc h

asks_check : (a b : Bool) (m : Option Origin) → (if a then Some command.Check else if b then Some command.Texts else option_map command.Run m) ≡ Some command.Check → a ≡ true
asks_check true b m h = refl
asks_check false true m h = absurd (cc h)
asks_check false false None h = absurd (cc h)
asks_check false false (Some p) h = absurd (cc h)

asks_texts : (a b : Bool) (m : Option Origin) → (if a then Some command.Check else if b then Some command.Texts else option_map command.Run m) ≡ Some command.Texts → b ≡ true
asks_texts true b m h = absurd (cc h)
asks_texts false true m h = refl
asks_texts false false None h = absurd (cc h)
asks_texts false false (Some p) h = absurd (cc h)

four : (n : ℕ) (asked names : Bool) → (asked && (n == 4) && names) ≡ true → n ≡ 4
four n true true e = grind (arith, nat_tests)
four n true false e = grind (arith, nat_tests)
four n false true e = grind (arith, nat_tests)
four n false false e = grind (arith, nat_tests)

-- a check has four words
pub check_words : (words : List (List ℕ)) → command_of words ≡ Some command.Check → length words ≡ 4
check_words words e = four (length words) (is_word words 1 (codes "check")) (list_all is_file_name (drop 2 words)) (asks_check (is_on_two words (codes "check")) (is_on_two words (codes "texts")) (origin_of words) e)

-- and so has a run on texts
pub texts_words : (words : List (List ℕ)) → command_of words ≡ Some command.Texts → length words ≡ 4
texts_words words e = four (length words) (is_word words 1 (codes "texts")) (list_all is_file_name (drop 2 words)) (asks_texts (is_on_two words (codes "check")) (is_on_two words (codes "texts")) (origin_of words) e)

-- so the names stand among them
pub among_four : (words : List (String Global)) (i : ℕ) → length (map string_bytes words) ≡ 4 → i < 4 → i < length words
among_four words i long lt = let same = length-map words (string_bytes {Z = Global}) in omega (arith, long, same, lt)

-- a word, where it stands
pub word_at : (words : List (String Global)) (i : ℕ) (word : String Global) → i < length words → word ≡ get_or words i word → string_bytes word ≡ get_or (map string_bytes words) i []
word_at words i word lt is = ap string_bytes is ∙ sym (get_or-map string_bytes words i word [] lt)

-- what follows of each value follows of what is answered
pub for_ok : {T E : Type 0} {P Q : T → Type 0} (r : Result T E) → ((x : T) → P x → Q x) → IfOk r P → IfOk r Q
for_ok (Ok x) f h = f x h
for_ok (Err e) f h = tt

pub for_err : {T E : Type 0} {P Q : E → Type 0} (r : Result T E) → ((e : E) → P e → Q e) → IfErr r P → IfErr r Q
for_err (Ok x) f h = tt
for_err (Err e) f h = f e h

-- the names, as the slice that is read
pub names_on : (words : List (String Global)) (setup : ℕ) → map string_bytes (take (length words - setup) (drop setup words)) ≡ drop setup (map string_bytes words)
names_on words setup = ap (map string_bytes) (slice_on words setup) ∙ sym (drop-map string_bytes setup words)
