-- Reading line by line, as the parser does it; private to this crate.
use Rattle.std.specs.Prelude.{◌≡◌, ℕ, ◌+◌, Bool, true, false, not, List, [], ◌∷◌, ◌++◌, length, drop, map, reverse, codes, Option, Some, None, is_some, Result, Ok, Err, nat_lt, ◌&&◌, ◌==◌, if◌then◌else◌}
use Rattle.std.specs.Str.{bytes_eq}
use Rattle.std.specs.Global.{Vec}
use Rattle.kc_script_lines.specs.declared.complaint.Complaint.{Complaint}
use Rattle.kc_script_lines.specs.declared.fault.Limit.TheVariants.{Threads}
use Rattle.kc_script_lines.specs.declared.fault.Why.{Why}
use Rattle.kc_script_lines.specs.declared.fault.Why.TheVariants.{Header, UnknownWord, StrayWord, UnclosedBlock, TooMany}
use Rattle.kc_script_lines.specs.declared.complaint.Complaint.TheVariants as complaint
use Rattle.kc_script_lines.specs.declared.fault.ScriptError.{ScriptError}
use Rattle.kc_script_lines.specs.declared.fault.ScriptError.TheVariants as error
use Rattle.kc_script_bundle.specs.Script.{Names, Script, names_of}
use Rattle.kc_script_bundle.specs.declared.bundle.TheConstants.{MOST_THREADS}
use Rattle.kc_script_bundle.specs.declared.object.Object.{Object}
use Rattle.kc_script_bundle.specs.declared.operation.Command.{Command}
use Rattle.kc_script_bundle.specs.declared.operation.Op.{Op}
use Rattle.kc_script_lines.specs.Tests.{◌>>=◌, wants, found, counted, positive_to, word_at}
use Rattle.kc_script_lines.specs.Words.{lines, words, is_skipped}
use Rattle.kc_script_verbs.specs.declared.verb.Verb.{Verb}
use Rattle.kc_script_verbs.specs.declared.word.Kind.{Kind}
use Rattle.kc_script_verbs.specs.declared.word.Word.{Word}
use Rattle.kc_term.specs.Tree.{Tree}
use Rattle.kc_script_verbs.specs.declared.word.Word.TheVariants as word
use Rattle.kc_script.specs.FirstFault.{Fault}
use Rattle.kc_script.specs.Version.{is_new, knows_limit, version_of, limit_of, word_in}
use Rattle.kc_script.specs.Parts.{PartFault}
use Rattle.kc_script.specs.declared.part_error.PartError.{PartError}
use Rattle.kc_script_verbs.specs.Declaring.{declare}
use Rattle.kc_script_verbs.specs.Saying.{say}
use Rattle.kc_script_verbs.specs.Words.{word_of}
use Rattle.kc_script.specs.declared.part_error.PartError.TheVariants as part_error
use Rattle.kc_script.specs.Blocks.{OpenBlock, Place, in_block, op_line, atomic_line, or_at, end_at}
use Rattle.kc_model.specs.declared.footprint.TheConstants.{MOST}
use Rattle.kc_script.specs.declared.reader.Version.{Version}
use Rattle.kc_script.specs.declared.reader.Version.TheVariants as version
use Rattle.kc_script.specs.declared.reader.Open.{Open}
use Rattle.kc_script.specs.declared.reader.Reader.{Reader}
use Rattle.kc_script.specs.declared.reader.Thread.{Thread}

-- ---- what the lines so far have declared and said

pub record ReadingState : Type 0 where
  -- a whole script is read, in which threads begin
  pub whole : Bool
  pub begun : Bool
  pub version : Version
  pub objects : Names
  -- the threads before the one that is open
  pub threads : List (List Command)
  -- the number of the thread that is open, from 0 on, where one is
  pub thread : Option ℕ
  pub place : Place

abbrev pub lists : List (Vec (Tree Op)) → List (List (Tree Op))
lists vs = map (λ v. v.items) vs

abbrev pub open_of : Open → OpenBlock
open_of b = record { level = b.level; done = lists b.done.items; parts = b.parts.items }

abbrev pub place_of_thread : Thread → Place
place_of_thread t = record { here = t.here.items; open_blocks = reverse (map open_of t.open_blocks.items); count = t.count }

abbrev pub reader_state : Reader → ReadingState
reader_state r = record {
  whole = r.whole;
  begun = r.begun;
  version = r.version;
  objects = names_of r.objects;
  threads = map (λ commands. commands.items) r.threads.items;
  thread = r.thread;
  place = place_of_thread r.place;
}

abbrev pub nowhere : Place
nowhere = record { here = []; open_blocks = []; count = 0 }

abbrev pub opening_state : Bool → ReadingState
opening_state whole = record { whole = whole; begun = false; version = version.Old; objects = []; threads = []; thread = None; place = nowhere }

-- ---- lines

abbrev pub with_object : ReadingState → List ℕ × Object → ReadingState
with_object s entry = record s { objects = s.objects ++ entry ∷ [] }

unfoldable pub declared_line : ReadingState → Kind → List (List ℕ) → Result ReadingState Why
declared_line s k args = do
  outside ← wants (not (is_some s.thread)) StrayWord
  entry ← declare s.objects k args
  Ok (with_object s entry)

-- what follows at a new place in the thread
abbrev pub at_new_place : ReadingState → Result Place Why → Result ReadingState Why
at_new_place s r = r >>= λ p. Ok (record s { place = p })

unfoldable pub said_line : ReadingState → Verb → List (List ℕ) → Result ReadingState Why
said_line s v args = do
  thread ← found s.thread StrayWord
  o ← say thread s.objects v args
  at_new_place s (op_line s.place o)

unfoldable pub begun_block : ReadingState → List (List ℕ) → Result ReadingState Why
begun_block s args = do
  thread ← found s.thread StrayWord
  at_new_place s (atomic_line s.place args)

-- the open thread, where there is one, put behind the threads
abbrev pub closed : ReadingState → ReadingState
closed s = record s { threads = if is_some s.thread then s.threads ++ s.place.here ∷ [] else s.threads; place = nowhere }

-- the thread of this number has begun
abbrev pub begun_thread : ReadingState → ℕ → ReadingState
begun_thread s thread = record (closed s) { thread = Some thread }

-- the number of the thread that begins next
abbrev pub next_thread : Option ℕ → ℕ
next_thread None = 0
next_thread (Some n) = n + 1

-- the blocks of the open thread have ended
abbrev pub no_block : ReadingState → Result (Unit {0}) Why
no_block s = wants (not (in_block s.place.open_blocks)) UnclosedBlock

unfoldable pub thread_line : ReadingState → List (List ℕ) → Result ReadingState Why
thread_line s args = do
  ended ← no_block s
  here ← wants s.whole StrayWord
  all ← counted 0 args
  room ← wants (nat_lt (next_thread s.thread) MOST_THREADS) (TooMany Threads)
  Ok (begun_thread s (next_thread s.thread))

abbrev pub no_names : Names → Bool
no_names [] = true
no_names (entry ∷ names) = false

-- the limit stands directly behind the header of version 2
abbrev pub can_limit : ReadingState → Bool
can_limit s = not (is_some s.thread) && no_names s.objects && is_new s.version

unfoldable pub limit_line : ReadingState → List (List ℕ) → Result ReadingState Why
limit_line s args = do
  here ← wants (can_limit s) StrayWord
  one ← counted 1 args
  n ← positive_to MOST (word_at args 0)
  Ok (record s { version = version.Limited n })

-- a line whose first word is no other
unfoldable pub unknown_line : ReadingState → List ℕ → List (List ℕ) → Result ReadingState Why
unknown_line s first args = wants (knows_limit s.version first) UnknownWord >>= λ known. limit_line s args

unfoldable pub worded_line : ReadingState → List ℕ → Option Word → List (List ℕ) → Result ReadingState Why
worded_line s first None args = unknown_line s first args
worded_line s first (Some word.Thread) args = thread_line s args
worded_line s first (Some word.Atomic) args = begun_block s args
worded_line s first (Some word.Or) args = at_new_place s (or_at s.place s.place.open_blocks args)
worded_line s first (Some word.End) args = at_new_place s (end_at s.place s.place.open_blocks args)
worded_line s first (Some (word.Declare k)) args = declared_line s k args
worded_line s first (Some (word.Say v)) args = said_line s v args

unfoldable pub header_line : ReadingState → List (List ℕ) → Result ReadingState Why
header_line s words = do
  count ← wants (length words == 2) Header
  first ← wants (bytes_eq (word_at words 0) (codes "kcas")) Header
  v ← found (version_of (word_at words 1)) Header
  Ok (record s { begun = true; version = v })

-- a line that isn't skipped
unfoldable pub content_line : ReadingState → List (List ℕ) → Result ReadingState Why
content_line s [] = Err UnknownWord
content_line s (first ∷ args) = if s.begun then worded_line s first (word_in s.version (word_of first)) args else header_line s (first ∷ args)

unfoldable pub any_line : ReadingState → List (List ℕ) → Result ReadingState Why
any_line s words = if is_skipped words then Ok s else content_line s words

-- the lines in turn
unfoldable pub all_lines : ReadingState → List (List ℕ) → Result ReadingState Why
all_lines s [] = Ok s
all_lines s (text ∷ texts) = any_line s (words text) >>= λ next. all_lines next texts

-- the lines may end here
unfoldable pub reading_ended : ReadingState → Result ReadingState Why
reading_ended s = do
  begun ← wants s.begun Header
  none ← no_block s
  Ok s

-- the script that was read
abbrev pub script_at : ReadingState → Script
script_at s = record { limit = limit_of s.version; objects = s.objects; threads = (closed s).threads }

-- ---- with the numbers of lines

-- the lines of the blocks that are open, behind a line with this number and this first word
abbrev pub atomics_behind : List ℕ → ℕ → Option Word → List ℕ
atomics_behind atomics n (Some word.Atomic) = n ∷ atomics
atomics_behind atomics n (Some word.End) = drop 1 atomics
atomics_behind atomics n _ = atomics

-- behind a line with these words, where the header was read before it or not
abbrev pub atomics_after : Bool → List ℕ → ℕ → List (List ℕ) → List ℕ
atomics_after begun atomics n [] = atomics
atomics_after begun atomics n (first ∷ args) = if begun then atomics_behind atomics n (word_of first) else atomics

abbrev pub atomics_next : Bool → List ℕ → ℕ → List (List ℕ) → List ℕ
atomics_next begun atomics n words = if is_skipped words then atomics else atomics_after begun atomics n words

-- the first of the lines
abbrev pub nearest_line : List ℕ → ℕ
nearest_line [] = 0
nearest_line (line ∷ atomics) = line

-- the line of what is wrong, with the line of the innermost block and the line that is read
abbrev pub place_of_fault : ℕ → ℕ → Why → ℕ
place_of_fault near n UnclosedBlock = near
place_of_fault near n why = n

abbrev pub at_line : {A : Type 0} → ℕ → ℕ → Result A Why → Result A Fault
at_line near n (Ok x) = Ok x
at_line near n (Err why) = Err (place_of_fault near n why, why)

abbrev pub then_read : {A B E : Type 0} → Result A E → (A → Result B E) → Result B E
then_read (Ok x) f = f x
then_read (Err fault) f = Err fault

-- what the lines come to from this one on, with this number, where blocks of these lines are open
unfoldable pub read_from : ReadingState → List ℕ → ℕ → List (List ℕ) → Result ReadingState Fault
read_from s atomics n [] = at_line (nearest_line atomics) 1 (reading_ended s)
read_from s atomics n (text ∷ texts) = then_read (at_line (nearest_line atomics) n (any_line s (words text))) (λ next. read_from next (atomics_next s.begun atomics n (words text)) (n + 1) texts)

-- what a part comes to
unfoldable pub part_read : ReadingState → List ℕ → Result ReadingState Fault
part_read s bytes = read_from s [] 1 (lines bytes)

unfoldable pub spelled : List ℕ → Result Script Fault
spelled bytes = then_read (part_read (opening_state true) bytes) (λ s. Ok (script_at s))

-- ---- parts

abbrev pub of_part : {A : Type 0} → ℕ → Result A Fault → Result A PartFault
of_part part (Ok x) = Ok x
of_part part (Err fault) = Err (part, fault)

-- what the files come to, from this thread's on
unfoldable pub files_read : ReadingState → ℕ → List (List ℕ) → Result ReadingState PartFault
files_read s thread [] = Ok s
files_read s thread (file ∷ files) = then_read (of_part (thread + 1) (part_read (begun_thread s thread) file)) (λ next. files_read next (thread + 1) files)

-- a setup, and then files
unfoldable pub parts_read : List ℕ → List (List ℕ) → Result ReadingState PartFault
parts_read setup files = then_read (of_part 0 (part_read (opening_state false) setup)) (λ s. files_read s 0 files)

unfoldable pub spelled_parts : List ℕ → List (List ℕ) → Result Script PartFault
spelled_parts setup files = then_read (parts_read setup files) (λ s. Ok (script_at s))

-- ---- what was returned

-- a complaint at these lines
abbrev pub complained : ℕ → ℕ → Complaint → ScriptError
complained near n (complaint.Here why) = error.Fault (place_of_fault near n why) why
complained near n complaint.NoMemory = error.NoMemory

-- it stopped at this fault, or for want of memory
abbrev pub ReadingStops : {A : Type 0} → ScriptError → Result A Fault → Type 0
ReadingStops (error.Fault line why) read = read ≡ Err (line, why)
ReadingStops error.NoMemory read = Unit {0}

-- it came to this, or stopped
abbrev pub ReadingComes : {X A : Type 0} → A → Result X ScriptError → Result A Fault → Type 0
ReadingComes new (Ok x) read = read ≡ Ok new
ReadingComes new (Err e) read = ReadingStops e read

-- what it gave, seen by view
abbrev pub Spelled : {X A : Type 0} → (X → A) → Result X ScriptError → Result A Fault → Type 0
Spelled view (Ok x) read = read ≡ Ok (view x)
Spelled view (Err e) read = ReadingStops e read

-- the lines were read up to their end, which is still to be read, or it stopped
abbrev pub ReadingEnds : {X : Type 0} → ReadingState → List ℕ → Result X ScriptError → Result ReadingState Fault → Type 0
ReadingEnds new atomics (Ok x) read = read ≡ at_line (nearest_line atomics) 1 (reading_ended new)
ReadingEnds new atomics (Err e) read = ReadingStops e read

-- a complaint in this part
abbrev pub in_a_part : ℕ → ScriptError → PartError
in_a_part part (error.Fault line why) = part_error.Fault part line why
in_a_part part error.NoMemory = part_error.NoMemory

-- parts stopped at this fault, or for want of memory
abbrev pub PartStops : {A : Type 0} → PartError → Result A PartFault → Type 0
PartStops (part_error.Fault part line why) read = read ≡ Err (part, (line, why))
PartStops part_error.NoMemory read = Unit {0}

-- parts came to this, or stopped
abbrev pub PartComes : {X A : Type 0} → A → Result X PartError → Result A PartFault → Type 0
PartComes new (Ok x) read = read ≡ Ok new
PartComes new (Err e) read = PartStops e read

-- what parts gave, seen by view
abbrev pub PartsSpelled : {X A : Type 0} → (X → A) → Result X PartError → Result A PartFault → Type 0
PartsSpelled view (Ok x) read = read ≡ Ok (view x)
PartsSpelled view (Err e) read = PartStops e read
