-- The reader of parts stops at their first fault.
use Rattle.std.proofs.Common.{◌≡◌, ℕ, ◌+◌, ◌≤◌, Bool, true, false, cond, List, [], ◌∷◌, ◌++◌, length, Option, Some, None, Result, Ok, Err, refl, sym, ap, ◌∙◌}
use Rattle.std.specs.Prelude.{IfOk, IfErr}
use Rattle.std.specs.Option.{option_or}
use Rattle.kc_script.specs.declared.part_error.PartError.{PartError}
use Rattle.kc_script_bundle.specs.Script.{Names, Script, script_of, next_from}
use Rattle.kc_script_bundle.specs.declared.bundle.Bundle.{Bundle}
use Rattle.kc_script_bundle.specs.declared.operation.Command.{Command}
use Rattle.kc_script_lines.proofs.Given.{given, bind_ok, ok_is}
use Rattle.kc_script_lines.specs.Words.{lines, words, is_skipped}
use Rattle.kc_script.specs.declared.part_error.PartError.TheVariants as error
use Rattle.kc_script.proofs.FirstFaults.{context_of, fault_at, line_comes, part_first, opening_first}
use Rattle.kc_script.proofs.Kept.{file_makes}
use Rattle.kc_script.proofs.Numbered.{part_is}
use Rattle.kc_script.proofs.PartLines.{Stands, setup_read, file_read, parts_spelled, spelled_is_read}
use Rattle.kc_script.proofs.Took.{outside, inside}
use Rattle.kc_script.specs.FirstFault.{Fault, Context, start, next_context, first_fault_from}
use Rattle.kc_script.specs.Parts.{SpellsParts, PartFault, in_part, behind_lines, in_file, first_fault_in_files, first_fault_in_parts, PartsSpellNone, PartsRefused}
use Rattle.kc_script.specs.Reading.{ReadingState, opening_state, nowhere, begun_thread, script_at, content_line, any_line, all_lines, atomics_after, then_read, part_read, of_part, files_read, parts_read, spelled_parts, PartsSpelled}
use Rattle.kc_script.specs.declared.reader.Version.{Version}

-- ---- behind a setup

-- the context that lines have come to, up to the lines of open blocks
abbrev IsBehind : Context → ReadingState → Type 0
IsBehind c t = (atomics : List ℕ) × (c ≡ context_of t atomics)

behind_is : (texts : List (List ℕ)) (s t : ReadingState) (atomics : List ℕ) (n : ℕ) → all_lines s texts ≡ Ok t → IsBehind (behind_lines (context_of s atomics) n texts) t
unfolding all_lines any_line behind_lines
behind_is [] s t atomics n e = (atomics, ap (λ (x : ReadingState). context_of x atomics) (ok_is _ _ e))
behind_is (text ∷ texts) s t atomics n e =
    let a = bind_ok (any_line s (words text)) (λ after. all_lines after texts) t e in
    by a.0 (is_skipped (words text)) a.1 (λ after. behind_is texts a.0 t after (n + 1) a.2)
  where
    by : (middle : ReadingState) (b : Bool) → cond b (given s) (content_line s (words text)) ≡ Ok middle → ((after : List ℕ) → IsBehind (behind_lines (context_of middle after) (n + 1) texts) t) → IsBehind (behind_lines (cond b (context_of s atomics) (next_context (context_of s atomics) n (words text))) (n + 1) texts) t
    by middle true f more =
        let r = more atomics in
        (r.0, ap (λ (x : ReadingState). behind_lines (context_of x atomics) (n + 1) texts) (ok_is _ _ f) ∙ r.1)
    by middle false f more =
        let r = more (atomics_after s.begun atomics n (words text)) in
        (r.0, ap (λ (c : Context). behind_lines c (n + 1) texts) (sym (line_comes s middle atomics n (words text) f)) ∙ r.1)

-- the context behind a setup
abbrev behind : Version → Names → Context
behind ver names = context_of (outside ver false names) []

setup_behind : (setup : List ℕ) (t : ReadingState) (ver : Version) (names : Names) → part_read (opening_state false) setup ≡ Ok t → outside ver false names ≡ t → behind_lines (start false) 1 (lines setup) ≡ behind ver names
unfolding next_from
setup_behind setup t ver names e f =
    let r = behind_is (lines setup) (opening_state false) t [] 1 (part_is (opening_state false) setup t e).all in
    r.1 ∙ ap (λ (x : ReadingState). context_of x r.0) (sym f)

-- ---- files

-- what a fault of a part is among all
part_or : {A B : Type 0} (part : ℕ) (r : Result A Fault) (first : Option Fault) (f : A → Result B PartFault) (others : Option PartFault) → fault_at r ≡ first → ((x : A) → r ≡ Ok x → fault_at (f x) ≡ others) → fault_at (then_read (of_part part r) f) ≡ option_or (in_part part first) others
part_or part (Ok x) first f others e more = more x refl ∙ ap (λ (o : Option Fault). option_or (in_part part o) others) e
part_or part (Err fault) first f others e more = ap (λ (o : Option Fault). option_or (in_part part o) others) e

file_first : (ver : Version) (names : Names) (threads : List (List Command)) (thread : ℕ) (file : List ℕ) → fault_at (part_read (inside ver false names threads thread nowhere) file) ≡ first_fault_from (in_file (behind ver names) thread) 1 (lines file)
file_first ver names threads thread file = part_first (inside ver false names threads thread nowhere) (file_makes ver names threads thread) refl file

files_first : (ver : Version) (files : List (List ℕ)) (names : Names) (threads : List (List Command)) (thread : ℕ) (s : ReadingState) → Stands ver s names threads thread → fault_at (files_read s thread files) ≡ first_fault_in_files (behind ver names) thread files
unfolding files_read first_fault_in_files
files_first ver [] names threads thread s stands = refl
files_first ver (file ∷ files) names threads thread s stands =
    part_or (thread + 1) (part_read (begun_thread s thread) file) (first_fault_from (in_file (behind ver names) thread) 1 (lines file)) (λ (t : ReadingState). files_read t (thread + 1) files) (first_fault_in_files (behind ver names) (thread + 1) files)
    (ap (λ (x : ReadingState). fault_at (part_read x file)) stands.ready ∙ file_first ver names threads thread file)
    (λ t e. let read = file_read ver names threads thread file t (ap (λ (x : ReadingState). part_read x file) (sym stands.ready) ∙ e) in
    files_first ver files names (threads ++ read.commands ∷ []) (thread + 1) t read.stands)

-- ---- all parts

reads_first : (setup : List ℕ) (files : List (List ℕ)) → fault_at (parts_read setup files) ≡ first_fault_in_parts setup files
unfolding parts_read first_fault_in_parts
reads_first setup files =
    part_or 0 (part_read (opening_state false) setup) (first_fault_from (start false) 1 (lines setup)) (λ (s : ReadingState). files_read s 0 files) (first_fault_in_files (behind_lines (start false) 1 (lines setup)) 0 files)
    (opening_first false setup)
    (λ t e. let r = setup_read setup t e in
    files_first r.ver files r.names [] 0 t r.stands ∙ ap (λ (c : Context). first_fault_in_files c 0 files) (sym (setup_behind setup t r.ver r.names e r.ends)))

parts_first : (setup : List ℕ) (files : List (List ℕ)) → fault_at (spelled_parts setup files) ≡ first_fault_in_parts setup files
unfolding spelled_parts
parts_first setup files = by (parts_read setup files) ∙ reads_first setup files where
  by : (r : Result ReadingState PartFault) → fault_at (then_read r (λ s. Ok (script_at s))) ≡ fault_at r
  by (Ok s) = refl
  by (Err fault) = refl

stops_first : (setup : List ℕ) (files : List (List ℕ)) (fault : PartFault) → spelled_parts setup files ≡ Err fault → first_fault_in_parts setup files ≡ Some fault
stops_first setup files fault e = sym (parts_first setup files) ∙ ap fault_at e

-- parts with no fault spell a script
pub parts_some : (setup : List ℕ) (files : List (List ℕ)) → length files ≤ 16 → first_fault_in_parts setup files ≡ None → (s : Script) × SpellsParts setup files s
parts_some setup files few e = by (spelled_parts setup files) refl where
  by : (r : Result Script PartFault) → spelled_parts setup files ≡ r → (s : Script) × SpellsParts setup files s
  by (Ok s) f = (s, parts_spelled setup files s few f)
  by (Err fault) f = let h = stops_first setup files fault f in absurd cc

-- parts with a first fault spell none
pub parts_none : (setup : List ℕ) (files : List (List ℕ)) (fault : PartFault) → first_fault_in_parts setup files ≡ Some fault → PartsSpellNone setup files
parts_none setup files fault e s p =
    let h = sym (parts_first setup files) ∙ ap fault_at (spelled_is_read setup files s p) in
    cc

-- ---- what is parsed

pub parse_spells : (setup : List ℕ) (files : List (List ℕ)) (r : Result Bundle PartError) → length files ≤ 16 → PartsSpelled script_of r (spelled_parts setup files) → IfOk r (λ bundle. SpellsParts setup files (script_of bundle))
parse_spells setup files (Ok bundle) few e = parts_spelled setup files (script_of bundle) few e
parse_spells setup files (Err error) few e = tt

pub parse_refuses : (setup : List ℕ) (files : List (List ℕ)) (r : Result Bundle PartError) → PartsSpelled script_of r (spelled_parts setup files) → IfErr r (PartsRefused setup files)
parse_refuses setup files (Ok bundle) e = tt
parse_refuses setup files (Err (error.Fault part line why)) e = let f = stops_first setup files (part, (line, why)) e in (f, parts_none setup files (part, (line, why)) f)
parse_refuses setup files (Err error.NoMemory) e = tt
