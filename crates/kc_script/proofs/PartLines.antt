-- What the reader reads of parts, the grammar has them spell, and the other way round.
use Rattle.std.proofs.Common.{◌≡◌, ℕ, ◌+◌, ◌≤◌, false, List, [], ◌∷◌, ◌++◌, length, Result, Ok, Err, refl, sym, ap, subst, ◌∙◌, append_assoc, arith}
use Rattle.std.proofs.lemmas.List.{append-nil}
use Rattle.kc_script.proofs.Agree.{say_read, front_read}
use Rattle.kc_script.proofs.Numbered.{then_ok, then_made, part_is, is_part}
use Rattle.kc_script.proofs.ReadLines.{place_read, opening_part}
use Rattle.kc_script.proofs.TextLines.{AllCount, all_join, contents_count, contents_back}
use Rattle.kc_script.specs.Version.{limit_of}
use Rattle.kc_script.specs.Spells.{Begins}
use Rattle.kc_script.specs.declared.reader.Version.{Version}
use Rattle.kc_script.proofs.Took.{outside, at, inside, all_contents, skipping}
use Rattle.kc_script.specs.Canonical.{text_of_lines}
use Rattle.kc_script.specs.FirstFault.{Fault}
use Rattle.kc_script.specs.Parts.{Files, SpellsParts, PartFault}
use Rattle.kc_script.specs.Reading.{ReadingState, opening_state, nowhere, begun_thread, reading_ended, script_at, then_read, part_read, of_part, files_read, parts_read, spelled_parts}
use Rattle.kc_script.specs.Spells.{Line, contents, spelled_thread, Declare, Say, Threads, Spells}
use Rattle.kc_script_bundle.specs.Script.{Names, Script}
use Rattle.kc_script_bundle.specs.declared.operation.Command.{Command}
use Rattle.kc_script_lines.specs.Words.{lines}

-- ---- where the reader stands between parts

-- behind a setup that declares these objects, and the files of these threads
pub record Stands (ver : Version) (s : ReadingState) (names : Names) (threads : List (List Command)) (thread : ℕ) : Type 0 where
  pub ready : begun_thread s thread ≡ inside ver false names threads thread nowhere
  pub is : script_at s ≡ record { limit = limit_of ver; objects = names; threads = threads }

setup_stands : (ver : Version) (names : Names) → Stands ver (outside ver false names) names [] 0
setup_stands ver names = record { ready = refl; is = refl }

file_stands : (ver : Version) (names : Names) (threads : List (List Command)) (thread count : ℕ) (commands : List Command) → Stands ver (inside ver false names threads thread (at commands [] count)) names (threads ++ commands ∷ []) (thread + 1)
file_stands ver names threads thread count commands = record { ready = refl; is = refl }

pub part_ok : {A : Type 0} (part : ℕ) (r : Result A Fault) (x : A) → of_part part r ≡ Ok x → r ≡ Ok x
part_ok part (Ok y) x e = let same : y ≡ x = cc in ap (λ z. Ok z) same
part_ok part (Err fault) x e = absurd cc

-- ---- what is read, is spelled

-- a setup was read
pub record SetupRead (setup : List ℕ) (t : ReadingState) : Type 0 where
  pub heading : List Line
  pub ver : Version
  pub begins : Begins heading ver
  pub names : Names
  pub declaring : List Line
  pub lines : contents setup ≡ heading ++ declaring
  pub declares : Declare ver [] declaring names
  pub ends : outside ver false names ≡ t
  pub stands : Stands ver t names [] 0

pub setup_read : (setup : List ℕ) (t : ReadingState) → part_read (opening_state false) setup ≡ Ok t → SetupRead setup t
setup_read setup t e =
    let o = opening_part false setup t e in
    let alone = o.alone refl in
    record {
      heading = o.heading;
      ver = o.version;
      begins = o.begins;
      names = o.all;
      declaring = o.declaring;
      lines = o.parts ∙ ap (λ (rest : List Line). o.heading ++ (o.declaring ++ rest)) alone.0 ∙ ap (λ (rest : List Line). o.heading ++ rest) (append-nil o.declaring);
      declares = o.declares;
      ends = alone.1;
      stands = subst (λ (x : ReadingState). Stands o.version x o.all [] 0) alone.1 (setup_stands o.version o.all);
    }

-- a file was read
pub record FileRead (ver : Version) (names : Names) (threads : List (List Command)) (thread : ℕ) (file : List ℕ) (t : ReadingState) : Type 0 where
  pub commands : List Command
  pub said : Say thread names (contents file) commands
  pub few : length commands ≤ 4096
  pub stands : Stands ver t names (threads ++ commands ∷ []) (thread + 1)

pub file_read : (ver : Version) (names : Names) (threads : List (List Command)) (thread : ℕ) (file : List ℕ) (t : ReadingState) → part_read (inside ver false names threads thread nowhere) file ≡ Ok t → FileRead ver names threads thread file t
file_read ver names threads thread file t e =
    let r = part_is (inside ver false names threads thread nowhere) file t e in
    let read = place_read ver (contents file) false names threads thread [] [] 0 t (omega arith) r.shut (sym (skipping (lines file) (inside ver false names threads thread nowhere)) ∙ r.all) in
    let alone = read.alone refl in
    let all : read.saying ≡ contents file = sym (append-nil read.saying) ∙ ap (λ (rest : List Line). read.saying ++ rest) (sym alone.none) ∙ sym read.parts in
    record {
      commands = read.commands;
      said = subst (λ (ls : List Line). Say thread names ls read.commands) all read.said;
      few = read.few;
      stands = subst (λ (x : ReadingState). Stands ver x names (threads ++ read.commands ∷ []) (thread + 1)) alone.is (file_stands ver names threads thread alone.count read.commands);
    }

record FilesRead (ver : Version) (names : Names) (threads : List (List Command)) (thread : ℕ) (files : List (List ℕ)) (t : ReadingState) : Type 0 where
  later : List (List Command)
  spelled : Files names thread files later
  ends : script_at t ≡ record { limit = limit_of ver; objects = names; threads = threads ++ later }

files_spell : (ver : Version) (files : List (List ℕ)) (names : Names) (threads : List (List Command)) (thread : ℕ) (s t : ReadingState) → Stands ver s names threads thread → thread + length files ≤ 16 → files_read s thread files ≡ Ok t → FilesRead ver names threads thread files t
unfolding files_read
files_spell ver [] names threads thread s t stands le e =
    let same : s ≡ t = cc in
    record { later = []; spelled = Files.none; ends = rw append-nil (ap script_at (sym same) ∙ stands.is) }
files_spell ver (file ∷ files) names threads thread s t stands le e =
    let a = then_ok (of_part (thread + 1) (part_read (begun_thread s thread) file)) (λ (next : ReadingState). files_read next (thread + 1) files) t e in
    let read = file_read ver names threads thread file a.0 (subst (λ (x : ReadingState). part_read x file ≡ Ok a.0) stands.ready (part_ok (thread + 1) (part_read (begun_thread s thread) file) a.0 a.1)) in
    let r = files_spell ver files names (threads ++ read.commands ∷ []) (thread + 1) a.0 t read.stands (omega (arith, le)) a.2 in
    record {
      later = read.commands ∷ r.later;
      spelled = Files.one (omega (arith, le)) read.said read.few r.spelled;
      ends = r.ends ∙ ap (λ (x : List (List Command)). record { limit = limit_of ver; objects = names; threads = x }) (append_assoc threads (read.commands ∷ []) r.later);
    }

pub parts_spelled : (setup : List ℕ) (files : List (List ℕ)) (s : Script) → length files ≤ 16 → spelled_parts setup files ≡ Ok s → SpellsParts setup files s
unfolding parts_read spelled_parts
parts_spelled setup files s few e =
    let a = then_made (parts_read setup files) script_at s e in
    let b = then_ok (of_part 0 (part_read (opening_state false) setup)) (λ (x : ReadingState). files_read x 0 files) a.0 a.1 in
    let o = setup_read setup b.0 (part_ok 0 (part_read (opening_state false) setup) b.0 b.1) in
    let r = files_spell o.ver files o.names [] 0 b.0 a.0 o.stands (omega (arith, few)) b.2 in
    let same : record { limit = limit_of o.ver; objects = o.names; threads = r.later } ≡ s = sym r.ends ∙ a.2 in
    subst (SpellsParts setup files) same (record { heading = o.heading; version = o.ver; begins = o.begins; limit = refl; declaring = o.declaring; lines = o.lines; declares = o.declares; threads = r.spelled })

-- ---- what is spelled, is read

record ToEnd (s : ReadingState) (thread : ℕ) (files : List (List ℕ)) (whole : Script) : Type 0 where
  last : ReadingState
  read : files_read s thread files ≡ Ok last
  is : script_at last ≡ whole

file_ended : (ver : Version) (names : Names) (threads : List (List Command)) (thread : ℕ) (commands : List Command) → reading_ended (inside ver false names threads thread (at commands [] 0)) ≡ Ok (inside ver false names threads thread (at commands [] 0))
unfolding reading_ended
file_ended ver names threads thread commands = refl

setup_ended : (ver : Version) (names : Names) → reading_ended (outside ver false names) ≡ Ok (outside ver false names)
unfolding reading_ended
setup_ended ver names = refl

said_is_read : (ver : Version) (names : Names) (threads : List (List Command)) (thread : ℕ) (file : List ℕ) (commands : List Command) → Say thread names (contents file) commands → length commands ≤ 4096 → part_read (inside ver false names threads thread nowhere) file ≡ Ok (inside ver false names threads thread (at commands [] 0))
said_is_read ver names threads thread file commands said few =
    let s = inside ver false names threads thread nowhere in
    is_part s file (inside ver false names threads thread (at commands [] 0))
    (skipping (lines file) s ∙ ap (all_contents s) (sym (append-nil (contents file))) ∙ say_read ver false names threads thread [] (contents file) commands [] said few)
    (file_ended ver names threads thread commands)

files_are_read : (ver : Version) (names : Names) (threads : List (List Command)) (thread : ℕ) (files : List (List ℕ)) (later : List (List Command)) (s : ReadingState) → Files names thread files later → Stands ver s names threads thread → ToEnd s thread files (record { limit = limit_of ver; objects = names; threads = threads ++ later })
unfolding files_read
files_are_read ver names threads thread files later s Files.none stands = record { last = s; read = refl; is = rw append-nil stands.is }
files_are_read ver names threads thread _ _ s (Files.one {file = file} {files = files} {commands = commands} {threads = later} lt said few rest) stands =
    let t = inside ver false names threads thread (at commands [] 0) in
    let r = files_are_read ver names (threads ++ commands ∷ []) (thread + 1) files later t rest (file_stands ver names threads thread 0 commands) in
    let read : part_read (begun_thread s thread) file ≡ Ok t = ap (λ (x : ReadingState). part_read x file) stands.ready ∙ said_is_read ver names threads thread file commands said few in
    record {
      last = r.last;
      read = ap (λ (x : Result ReadingState Fault). then_read (of_part (thread + 1) x) (λ (next : ReadingState). files_read next (thread + 1) files)) read ∙ r.read;
      is = r.is ∙ ap (λ (x : List (List Command)). record { limit = limit_of ver; objects = names; threads = x }) (append_assoc threads (commands ∷ []) later);
    }

pub spelled_is_read : (setup : List ℕ) (files : List (List ℕ)) (s : Script) → SpellsParts setup files s → spelled_parts setup files ≡ Ok s
unfolding parts_read spelled_parts
spelled_is_read setup files s p =
    let lined = skipping (lines setup) (opening_state false) ∙ ap (all_contents (opening_state false)) (p.lines ∙ ap (λ (rest : List Line). p.heading ++ rest) (sym (append-nil p.declaring))) in
    let read = is_part (opening_state false) setup (outside p.version false s.objects) (lined ∙ front_read false p.heading p.version p.begins s.objects p.declaring [] p.declares) (setup_ended p.version s.objects) in
    let r = files_are_read p.version s.objects [] 0 files s.threads (outside p.version false s.objects) p.threads (setup_stands p.version s.objects) in
    ap (λ (x : Result ReadingState Fault). then_read (then_read (of_part 0 x) (λ (first : ReadingState). files_read first 0 files)) (λ (last : ReadingState). Ok (script_at last))) read
    ∙ ap (λ (x : Result ReadingState PartFault). then_read x (λ (last : ReadingState). Ok (script_at last))) r.read
    ∙ ap (λ (x : Script). Ok x) (r.is ∙ (λ i. record { limit = sym p.limit i; objects = s.objects; threads = s.threads }))

pub parts_spell_one : (setup : List ℕ) (files : List (List ℕ)) (s t : Script) → SpellsParts setup files s → SpellsParts setup files t → s ≡ t
parts_spell_one setup files s t p q =
    let first = spelled_is_read setup files s p in
    let second = spelled_is_read setup files t q in
    cc

-- ---- as a whole

-- the lines of all threads
abbrev joined : List (List ℕ) → List Line
joined [] = []
joined (file ∷ files) = spelled_thread ∷ (contents file ++ joined files)

files_threads : (names : Names) (thread : ℕ) (files : List (List ℕ)) (threads : List (List Command)) → Files names thread files threads → Threads names thread (joined files) threads
files_threads names thread files threads Files.none = Threads.none
files_threads names thread _ _ (Files.one {file = file} {files = files} {threads = threads} lt said few rest) = Threads.one lt said few (files_threads names (thread + 1) files threads rest)

thread_counts : AllCount (spelled_thread ∷ [])
thread_counts = ((((omega arith, ((refl, refl), ((refl, refl), ((refl, refl), ((refl, refl), ((refl, refl), ((refl, refl), tt))))))), tt), refl), tt)

joined_count : (files : List (List ℕ)) → AllCount (joined files)
joined_count [] = tt
joined_count (file ∷ files) = (thread_counts.0, all_join (contents file) (joined files) (contents_count file) (joined_count files))

-- one text with all their lines spells what the parts spell
pub parts_whole : (setup : List ℕ) (files : List (List ℕ)) (s : Script) → SpellsParts setup files s → (bytes : List ℕ) × Spells bytes s
parts_whole setup files s p =
    let cs = contents setup ++ joined files in (
      text_of_lines cs,
      record {
        heading = p.heading;
        version = p.version;
        begins = p.begins;
        limit = p.limit;
        declaring = p.declaring;
        threading = joined files;
        lines = contents_back cs (all_join (contents setup) (joined files) (contents_count setup) (joined_count files)) ∙ ap (λ (ls : List Line). ls ++ joined files) p.lines ∙ append_assoc p.heading p.declaring (joined files);
        declares = p.declares;
        threads = files_threads s.objects 0 files s.threads p.threads;
      },
    )

-- a thread for each file
pub files_each : (names : Names) (thread : ℕ) (files : List (List ℕ)) (threads : List (List Command)) → Files names thread files threads → length threads ≡ length files
files_each names thread files threads Files.none = refl
files_each names thread _ _ (Files.one {files = files} {threads = threads} lt said few rest) = omega (arith, files_each names (thread + 1) files threads rest)
