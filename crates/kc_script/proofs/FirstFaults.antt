-- The reader stops at the first fault.
use Rattle.std.proofs.Common.{◌≡◌, ℕ, ◌+◌, Bool, true, false, not, cond, leb, ltb, List, [], ◌∷◌, ◌++◌, length, drop, Option, Some, None, Result, Ok, Err, refl, sym, ap, subst, ◌∙◌, arith, length-append}
use Rattle.std.specs.Prelude.{IfOk, IfErr}
use Rattle.std.specs.Option.{option_or, option_map}
use Rattle.std.proofs.lemmas.Bool.Decides.{nat_tests}
use Rattle.std.proofs.lemmas.List.{map-append}
use Rattle.kc_script_bundle.specs.declared.object.Object.{Object}
use Rattle.kc_script_bundle.specs.declared.operation.Command.{Command}
use Rattle.kc_script_bundle.specs.declared.operation.Op.{Op}
use Rattle.kc_script_lines.proofs.Faults.{Tested, then_fault, made_fault, wants_fault, counted_fault}
use Rattle.kc_script_lines.proofs.Given.{given, bind_ok, ok_is}
use Rattle.kc_script_lines.specs.Tests.{◌>>=◌, wants, counted, word_at, first_failing, fault_of, count_tests}
use Rattle.kc_script_lines.specs.Words.{lines, words, is_skipped}
use Rattle.kc_script_lines.specs.declared.fault.Limit.TheVariants.{Locations, Threads as ThreadsLimit, Commands as CommandsLimit, Block as BlockLimit, Depth}
use Rattle.kc_script_lines.specs.declared.fault.Why.{Why}
use Rattle.kc_script_lines.specs.declared.fault.Why.TheVariants.{Header, UnknownWord, UnknownName, RepeatedName, BadName, BadNumber, WrongKind, MissingWord, ExtraWord, UnclosedBlock, StrayWord, TooMany}
use Rattle.kc_term.specs.Tree.{Tree}
use Rattle.kc_script_bundle.specs.declared.operation.Command.TheVariants as command
use Rattle.kc_script_lines.specs.declared.fault.ScriptError.{ScriptError}
use Rattle.kc_script_lines.specs.declared.fault.ScriptError.TheVariants as error
use Rattle.kc_script_bundle.specs.Script.{Names, Script, script_of, cells, next_from}
use Rattle.kc_script_bundle.specs.declared.bundle.Bundle.{Bundle}
use Rattle.kc_script_verbs.specs.declared.verb.Verb.{Verb}
use Rattle.kc_script_verbs.specs.declared.word.Kind.{Kind}
use Rattle.kc_script_verbs.specs.declared.word.Word.{Word}
use Rattle.kc_script_verbs.specs.declared.word.Word.TheVariants as word
use Rattle.kc_script.proofs.Agree.{spells_spelled}
use Rattle.kc_script.proofs.Heads.{header_fault, unknown_fault, unknown_comes}
use Rattle.kc_script.specs.declared.reader.Version.{Version}
use Rattle.kc_script.specs.Version.{version_of, has_kind, word_in}
use Rattle.kc_script.proofs.Kept.{MakesBlocks, opening_makes}
use Rattle.kc_script.proofs.Objects.{next_from_more}
use Rattle.kc_script.proofs.ReadLines.{header_read, spelled_spells}
use Rattle.kc_script.specs.Blocks.{OpenBlock, Place, block_of, in_block, counted_up, with_op, with_block, op_line, level_here, atomic_line, or_at, end_at}
use Rattle.kc_script.specs.FirstFault.{version_or, Fault, OpenAt, Context, start, is_open, level_below, innermost, thread_after, is_header, room_tests, limit_tests, line_word_tests, tests, end_tests, one_command_more, deeper, ended_block, behind_word, next_context, fault_line, fault_in, first_fault_from, first_fault}
use Rattle.kc_script.specs.Reading.{ReadingState, opening_state, begun_thread, next_thread, no_block, with_object, at_new_place, declared_line, said_line, begun_block, thread_line, worded_line, header_line, content_line, any_line, all_lines, reading_ended, script_at, atomics_behind, atomics_after, nearest_line, place_of_fault, at_line, then_read, read_from, part_read, spelled, Spelled}
use Rattle.kc_script.specs.Refused.{SpellNone, Refused}
use Rattle.kc_script.specs.Spells.{Line}
use Rattle.kc_script.specs.Spells.{Spells}
use Rattle.kc_script_verbs.proofs.Tested.{say_fault, declare_fault, declare_is}
use Rattle.kc_script_verbs.specs.Declaring.{declare}
use Rattle.kc_script_verbs.specs.Fields.{Kinds, object_kind, kinds_of, kind_fields, declared_size, args_tests}
use Rattle.kc_script_verbs.specs.Saying.{say}
use Rattle.kc_script_verbs.specs.Words.{word_of}

-- ---- the context of a state

-- open blocks with the lines of their `atomic`s
abbrev opened : List OpenBlock → List ℕ → List OpenAt
opened [] atomics = []
opened (b ∷ outer) atomics = record { level = b.level; line = nearest_line atomics } ∷ opened outer (drop 1 atomics)

-- commands that were said, and the outermost block that is open
abbrev begun_in : List OpenBlock → List Command → ℕ
begun_in [] here = length here
begun_in (b ∷ outer) here = length here + 1

abbrev pub context_of : ReadingState → List ℕ → Context
context_of s atomics = record {
  whole = s.whole;
  begun = s.begun;
  version = s.version;
  names = kinds_of s.objects;
  cells = next_from 0 s.objects;
  thread = s.thread;
  commands = begun_in s.place.open_blocks s.place.here;
  blocks = opened s.place.open_blocks atomics;
  count = s.place.count;
}

-- the first location that no object has is behind location 0 and all cells
shifted : (at : ℕ) (names : Names) → next_from (at + 1) names ≡ next_from at names + 1
unfolding next_from
shifted at [] = refl
shifted at (entry ∷ names) = ap (λ n. next_from n names) (the_sum at (cells entry.1)) ∙ shifted (at + cells entry.1) names where
  the_sum : (a b : ℕ) → a + 1 + b ≡ a + b + 1
  the_sum a b = omega arith

same_thread : (t : Option ℕ) → next_thread t ≡ thread_after t
same_thread None = refl
same_thread (Some n) = refl

-- ---- a line's tests

abbrev state : Bool → Bool → Version → Names → List (List Command) → Option ℕ → List Command → List OpenBlock → ℕ → ReadingState
state whole begun version objects threads thread here blocks count = record { whole = whole; begun = begun; version = version; objects = objects; threads = threads; thread = thread; place = record { here = here; open_blocks = blocks; count = count } }

-- a block that is open can be made
abbrev Made : List OpenBlock → Type 0
Made [] = Unit {0}
Made (b ∷ outer) = (t : Tree Op) × (block_of b ≡ Ok t)

module _ (whole begun : Bool) (version : Version) (objects : Names) (threads : List (List Command)) (here : List Command) (count : ℕ) (atomics : List ℕ) where
  abbrev now : Option ℕ → List OpenBlock → ReadingState
  now thread blocks = state whole begun version objects threads thread here blocks count

  abbrev context : Option ℕ → List OpenBlock → Context
  context thread blocks = context_of (now thread blocks) atomics

  room_fault : (thread : Option ℕ) (blocks : List OpenBlock) → Tested (counted_up (now thread blocks).place blocks) (room_tests (context thread blocks))
  unfolding counted_up
  room_fault thread [] = made_fault (wants (ltb (length here) 4096) (TooMany CommandsLimit)) (λ room. 0) _ (wants_fault _ _)
  room_fault thread (b ∷ outer) = made_fault (wants (ltb count 16) (TooMany BlockLimit)) (λ room. count + 1) _ (wants_fault _ _)

  thread_fault : (thread : Option ℕ) (blocks : List OpenBlock) (args : List (List ℕ)) → Tested (thread_line (now thread blocks) args) (line_word_tests (context thread blocks) [] (Some word.Thread) args)
  unfolding thread_line
  thread_fault None [] args = record { same = (then_fault (wants whole StrayWord) (λ here. counted 0 args >>= λ all. wants (ltb 0 16) (TooMany ThreadsLimit) >>= λ room. Ok (begun_thread (now None []) 0)) ((whole, StrayWord) ∷ []) (count_tests 0 args ++ (ltb 0 16, TooMany ThreadsLimit) ∷ []) (wants_fault _ _) (λ here f. then_fault (counted 0 args) (λ all. wants (ltb 0 16) (TooMany ThreadsLimit) >>= λ room. Ok (begun_thread (now None []) 0)) _ ((ltb 0 16, TooMany ThreadsLimit) ∷ []) (counted_fault 0 args) (λ all e. made_fault (wants (ltb 0 16) (TooMany ThreadsLimit)) (λ room. begun_thread (now None []) 0) _ (wants_fault _ _)))).same }
  thread_fault (Some n) [] args = record { same = (then_fault (wants whole StrayWord) (λ here. counted 0 args >>= λ all. wants (ltb (n + 1) 16) (TooMany ThreadsLimit) >>= λ room. Ok (begun_thread (now (Some n) []) (n + 1))) ((whole, StrayWord) ∷ []) (count_tests 0 args ++ (ltb (n + 1) 16, TooMany ThreadsLimit) ∷ []) (wants_fault _ _) (λ here f. then_fault (counted 0 args) (λ all. wants (ltb (n + 1) 16) (TooMany ThreadsLimit) >>= λ room. Ok (begun_thread (now (Some n) []) (n + 1))) _ ((ltb (n + 1) 16, TooMany ThreadsLimit) ∷ []) (counted_fault 0 args) (λ all e. made_fault (wants (ltb (n + 1) 16) (TooMany ThreadsLimit)) (λ room. begun_thread (now (Some n) []) (n + 1)) _ (wants_fault _ _)))).same }
  thread_fault thread (b ∷ outer) args = record { same = refl }

  -- the block that begins
  abbrev begun_at : List OpenBlock → ℕ → Place
  begun_at blocks count = record { here = here; open_blocks = record { level = level_here blocks; done = []; parts = [] } ∷ blocks; count = count }

  level_same : (blocks : List OpenBlock) → level_here blocks ≡ level_below (opened blocks atomics)
  level_same [] = refl
  level_same (b ∷ outer) = refl

  begins_fault : (thread : Option ℕ) (blocks : List OpenBlock) (args : List (List ℕ)) → Tested (atomic_line (now thread blocks).place args) (count_tests 0 args ++ (room_tests (context thread blocks) ++ (leb (level_below (opened blocks atomics)) 8, TooMany Depth) ∷ []))
  unfolding atomic_line
  begins_fault thread blocks args =
      let last = λ (count : ℕ). wants (leb (level_here blocks) 8) (TooMany Depth) >>= λ shallow. given (begun_at blocks count) in
      let depth = λ (level : ℕ). (leb level 8, TooMany Depth) ∷ [] in
      subst (λ level. Tested (atomic_line (now thread blocks).place args) (count_tests 0 args ++ (room_tests (context thread blocks) ++ depth level))) (level_same blocks)
      (then_fault (counted 0 args) (λ all. counted_up (now thread blocks).place blocks >>= last) (count_tests 0 args) (room_tests (context thread blocks) ++ depth (level_here blocks)) (counted_fault 0 args)
      (λ all e. then_fault (counted_up (now thread blocks).place blocks) last (room_tests (context thread blocks)) (depth (level_here blocks)) (room_fault thread blocks)
      (λ count f. made_fault (wants (leb (level_here blocks) 8) (TooMany Depth)) (λ shallow. begun_at blocks count) _ (wants_fault _ _))))

  atomic_fault : (thread : Option ℕ) (blocks : List OpenBlock) (args : List (List ℕ)) → Tested (begun_block (now thread blocks) args) (line_word_tests (context thread blocks) [] (Some word.Atomic) args)
  unfolding begun_block
  atomic_fault None blocks args = record { same = refl }
  atomic_fault (Some n) blocks args = record { same = (made_fault (atomic_line (now (Some n) blocks).place args) _ _ (begins_fault (Some n) blocks args)).same }

  or_fault : (thread : Option ℕ) (blocks : List OpenBlock) (args : List (List ℕ)) → Tested (at_new_place (now thread blocks) (or_at (now thread blocks).place blocks args)) (line_word_tests (context thread blocks) [] (Some word.Or) args)
  unfolding or_at
  or_fault thread [] args = record { same = refl }
  or_fault thread (b ∷ outer) args = record { same = (made_fault (or_at (now thread (b ∷ outer)).place (b ∷ outer) args) _ _ (then_fault (counted 0 args) _ _ ((ltb b.level 8, TooMany Depth) ∷ []) (counted_fault 0 args) (λ all e. made_fault (wants (ltb b.level 8) (TooMany Depth)) _ _ (wants_fault _ _)))).same }

  end_fault : (thread : Option ℕ) (blocks : List OpenBlock) (args : List (List ℕ)) → Made blocks → Tested (at_new_place (now thread blocks) (end_at (now thread blocks).place blocks args)) (line_word_tests (context thread blocks) [] (Some word.End) args)
  unfolding end_at
  end_fault thread [] args made = record { same = refl }
  end_fault thread (b ∷ outer) args made = record { same = (made_fault (end_at (now thread (b ∷ outer)).place (b ∷ outer) args) _ _ (then_fault (counted 0 args) _ _ [] (counted_fault 0 args) (λ all e. made_whole))).same } where
    made_whole : Tested (block_of b >>= λ t. Ok (with_block (now thread (b ∷ outer)).place outer t)) []
    made_whole = rw made.1 (record { same = refl })

  said_fault : (thread : Option ℕ) (blocks : List OpenBlock) (v : Verb) (args : List (List ℕ)) → Tested (said_line (now thread blocks) v args) (line_word_tests (context thread blocks) [] (Some (word.Say v)) args)
  unfolding said_line op_line
  said_fault None blocks v args = record { same = refl }
  said_fault (Some n) blocks v args = record { same = (then_fault (say n objects v args) _ _ _ (say_fault n objects v args) (λ o e. made_fault (op_line (now (Some n) blocks).place o) _ _ (made_fault (counted_up (now (Some n) blocks).place blocks) _ _ (room_fault (Some n) blocks)))).same }

  declared_fault : (thread : Option ℕ) (blocks : List OpenBlock) (k : Kind) (args : List (List ℕ)) → Tested (declared_line (now thread blocks) k args) (line_word_tests (context thread blocks) [] (Some (word.Declare k)) args)
  unfolding declared_line
  declared_fault (Some n) blocks k args = record { same = refl }
  declared_fault None blocks k args = record { same = (made_fault (declare objects k args) _ _ (subst (λ t. Tested (declare objects k args) (args_tests (kinds_of objects) (kind_fields k) args ++ (t, TooMany Locations) ∷ [])) (limit (next_from 0 objects) (declared_size k args) (next_from 1 objects) (shifted 0 objects)) (declare_fault objects k args))).same } where
    limit : (sum size first : ℕ) → first ≡ sum + 1 → leb (first + size) 65536 ≡ leb (sum + size) 65535
    limit sum size first e = grind (arith, nat_tests)

  word_fault : (thread : Option ℕ) (blocks : List OpenBlock) (first : List ℕ) (w : Option Word) (args : List (List ℕ)) → Made blocks → Tested (worded_line (now thread blocks) first w args) (line_word_tests (context thread blocks) first w args)
  unfolding worded_line
  word_fault thread blocks first None args made = unknown_fault (now thread blocks) first args
  word_fault thread blocks first (Some word.Thread) args made = thread_fault thread blocks args
  word_fault thread blocks first (Some word.Atomic) args made = atomic_fault thread blocks args
  word_fault thread blocks first (Some word.Or) args made = or_fault thread blocks args
  word_fault thread blocks first (Some word.End) args made = end_fault thread blocks args made
  word_fault thread blocks first (Some (word.Declare k)) args made = declared_fault thread blocks k args
  word_fault thread blocks first (Some (word.Say v)) args made = said_fault thread blocks v args

pub line_fault : (s : ReadingState) (atomics : List ℕ) (line : Line) → Made s.place.open_blocks → Tested (content_line s line) (tests (context_of s atomics) line)
unfolding content_line
line_fault s atomics [] made = record { same = refl }
line_fault s atomics (first ∷ args) made = by s.begun where
  by : (b : Bool) → Tested (cond b (worded_line s first (word_in s.version (word_of first)) args) (header_line s (first ∷ args))) (cond b (line_word_tests (context_of s atomics) first (word_in s.version (word_of first)) args) ((is_header (first ∷ args), Header) ∷ []))
  by true = word_fault s.whole s.begun s.version s.objects s.threads s.place.here s.place.count atomics s.thread s.place.open_blocks first (word_in s.version (word_of first)) args made
  by false = header_fault s (first ∷ args)

-- ---- what a line adds

-- the names with one more
kinds_more : (names : Names) (entry : List ℕ × Object) (word : List ℕ) (k : Kind) → entry.0 ≡ word → object_kind entry.1 ≡ k → kinds_of (names ++ entry ∷ []) ≡ kinds_of names ++ (word, k) ∷ []
kinds_more names entry word k e f =
    map-append (λ (x : List ℕ × Object). (x.0, object_kind x.1)) names (entry ∷ [])
    ∙ ap (λ (w : List ℕ). kinds_of names ++ (w, object_kind entry.1) ∷ []) e
    ∙ ap (λ (j : Kind). kinds_of names ++ (word, j) ∷ []) f

module _ (whole begun : Bool) (version : Version) (objects : Names) (threads : List (List Command)) (here : List Command) (count : ℕ) (atomics : List ℕ) (n : ℕ) (t : ReadingState) where
  -- in this context, a line with this first word has come to the state
  abbrev Comes : Option ℕ → List OpenBlock → Option Word → List (List ℕ) → Type 0
  Comes thread blocks w args = context_of t (atomics_behind atomics n w) ≡ behind_word (context whole begun version objects threads here count atomics thread blocks) n w args

  abbrev from : Option ℕ → List OpenBlock → ReadingState
  from thread blocks = state whole begun version objects threads thread here blocks count

  thread_comes : (thread : Option ℕ) (blocks : List OpenBlock) (args : List (List ℕ)) → thread_line (from thread blocks) args ≡ Ok t → Comes thread blocks (Some word.Thread) args
  unfolding thread_line
  thread_comes thread blocks args e =
      let s = from thread blocks in
      let last = λ (room : Unit {0}). given (begun_thread s (next_thread thread)) in
      let second = λ (all : Unit {0}). wants (ltb (next_thread thread) 16) (TooMany ThreadsLimit) >>= last in
      let middle = λ (here : Unit {0}). counted 0 args >>= second in
      let a = bind_ok (no_block s) (λ (ended : Unit {0}). wants whole StrayWord >>= middle) t e in
      let w = bind_ok (wants whole StrayWord) middle t a.2 in
      let b = bind_ok (counted 0 args) second t w.2 in
      let d = bind_ok (wants (ltb (next_thread thread) 16) (TooMany ThreadsLimit)) last t b.2 in
      subst (λ (x : ReadingState). context_of x atomics ≡ behind_word (context whole begun version objects threads here count atomics thread blocks) n (Some word.Thread) args) (ok_is _ _ d.2)
      (ap (λ (x : ℕ). record { whole = whole; begun = begun; version = version; names = kinds_of objects; cells = next_from 0 objects; thread = Some x; commands = 0; blocks = []; count = 0 }) (same_thread thread))

  -- a new place in the thread
  new_place : (thread : Option ℕ) (blocks : List OpenBlock) (w : Option Word) (args : List (List ℕ)) (r : Result Place Why) → at_new_place (from thread blocks) r ≡ Ok t → ((p : Place) → r ≡ Ok p → context_of (record (from thread blocks) { place = p }) (atomics_behind atomics n w) ≡ behind_word (context whole begun version objects threads here count atomics thread blocks) n w args) → Comes thread blocks w args
  new_place thread blocks w args r e more =
      let a = bind_ok r (λ (p : Place). given (record (from thread blocks) { place = p })) t e in
      subst (λ (x : ReadingState). context_of x (atomics_behind atomics n w) ≡ behind_word (context whole begun version objects threads here count atomics thread blocks) n w args) (ok_is _ _ a.2) (more a.0 a.1)

  -- how many the outermost block then has
  counted_is : (thread : Option ℕ) (blocks : List OpenBlock) (m : ℕ) → counted_up (from thread blocks).place blocks ≡ Ok m → (one_command_more (context whole begun version objects threads here count atomics thread blocks)).count ≡ m
  unfolding counted_up
  counted_is thread [] m e =
      let a = bind_ok (wants (ltb (length here) 4096) (TooMany CommandsLimit)) (λ room. given 0) m e in
      ok_is _ _ a.2
  counted_is thread (b ∷ outer) m e =
      let a = bind_ok (wants (ltb count 16) (TooMany BlockLimit)) (λ room. given (count + 1)) m e in
      ok_is _ _ a.2

  -- a block begins
  atomic_place : (thread : Option ℕ) (blocks : List OpenBlock) (args : List (List ℕ)) (m : ℕ) → (one_command_more (context whole begun version objects threads here count atomics thread blocks)).count ≡ m → context_of (record (from thread blocks) { place = record { here = here; open_blocks = record { level = level_here blocks; done = []; parts = [] } ∷ blocks; count = m } }) (n ∷ atomics) ≡ behind_word (context whole begun version objects threads here count atomics thread blocks) n (Some word.Atomic) args
  atomic_place thread [] args m e = rw (sym e) refl
  atomic_place thread (b ∷ outer) args m e = rw (sym e) refl

  atomic_comes : (thread : Option ℕ) (blocks : List OpenBlock) (args : List (List ℕ)) → begun_block (from thread blocks) args ≡ Ok t → Comes thread blocks (Some word.Atomic) args
  unfolding begun_block atomic_line
  atomic_comes None blocks args e = absurd cc
  atomic_comes (Some i) blocks args e = new_place (Some i) blocks (Some word.Atomic) args (atomic_line (from (Some i) blocks).place args) e (λ p f.
      let made = λ (m : ℕ). begun_at whole begun version objects threads here count atomics blocks m in
      let last = λ (m : ℕ). wants (leb (level_here blocks) 8) (TooMany Depth) >>= λ shallow. given (made m) in
      let a = bind_ok (counted 0 args) (λ all. counted_up (from (Some i) blocks).place blocks >>= last) p f in
      let b = bind_ok (counted_up (from (Some i) blocks).place blocks) last p a.2 in
      let d = bind_ok (wants (leb (level_here blocks) 8) (TooMany Depth)) (λ shallow. given (made b.0)) p b.2 in
      subst (λ (x : Place). context_of (record (from (Some i) blocks) { place = x }) (n ∷ atomics) ≡ behind_word (context whole begun version objects threads here count atomics (Some i) blocks) n (Some word.Atomic) args) (ok_is _ _ d.2) (atomic_place (Some i) blocks args b.0 (counted_is (Some i) blocks b.0 b.1)))

  or_comes : (thread : Option ℕ) (blocks : List OpenBlock) (args : List (List ℕ)) → at_new_place (from thread blocks) (or_at (from thread blocks).place blocks args) ≡ Ok t → Comes thread blocks (Some word.Or) args
  unfolding or_at
  or_comes thread [] args e = absurd cc
  or_comes thread (b ∷ outer) args e = new_place thread (b ∷ outer) (Some word.Or) args (or_at (from thread (b ∷ outer)).place (b ∷ outer) args) e (λ p f.
      let made : Place = record (from thread (b ∷ outer)).place { open_blocks = record { level = b.level + 1; done = b.done ++ b.parts ∷ []; parts = [] } ∷ outer } in
      let last = λ (shallow : Unit {0}). given made in
      let a = bind_ok (counted 0 args) (λ all. wants (ltb b.level 8) (TooMany Depth) >>= last) p f in
      let d = bind_ok (wants (ltb b.level 8) (TooMany Depth)) last p a.2 in
      subst (λ (x : Place). context_of (record (from thread (b ∷ outer)) { place = x }) atomics ≡ behind_word (context whole begun version objects threads here count atomics thread (b ∷ outer)) n (Some word.Or) args) (ok_is made p d.2) refl)

  -- a block has ended
  end_place : (thread : Option ℕ) (b : OpenBlock) (outer : List OpenBlock) (args : List (List ℕ)) (x : Tree Op) → context_of (record (from thread (b ∷ outer)) { place = with_block (from thread (b ∷ outer)).place outer x }) (drop 1 atomics) ≡ behind_word (context whole begun version objects threads here count atomics thread (b ∷ outer)) n (Some word.End) args
  end_place thread b [] args x = ap (λ (m : ℕ). record { whole = whole; begun = begun; version = version; names = kinds_of objects; cells = next_from 0 objects; thread = thread; commands = m; blocks = []; count = 0 }) (length-append here (command.Block x ∷ []))
  end_place thread b (o ∷ outer) args x = refl

  end_comes : (thread : Option ℕ) (blocks : List OpenBlock) (args : List (List ℕ)) → at_new_place (from thread blocks) (end_at (from thread blocks).place blocks args) ≡ Ok t → Comes thread blocks (Some word.End) args
  unfolding end_at
  end_comes thread [] args e = absurd cc
  end_comes thread (b ∷ outer) args e = new_place thread (b ∷ outer) (Some word.End) args (end_at (from thread (b ∷ outer)).place (b ∷ outer) args) e (λ p f.
      let last = λ (x : Tree Op). given (with_block (from thread (b ∷ outer)).place outer x) in
      let a = bind_ok (counted 0 args) (λ all. block_of b >>= last) p f in
      let d = bind_ok (block_of b) last p a.2 in
      subst (λ (x : Place). context_of (record (from thread (b ∷ outer)) { place = x }) (drop 1 atomics) ≡ behind_word (context whole begun version objects threads here count atomics thread (b ∷ outer)) n (Some word.End) args) (ok_is _ _ d.2) (end_place thread b outer args d.0))

  -- an operation is said
  said_place : (thread : Option ℕ) (blocks : List OpenBlock) (v : Verb) (args : List (List ℕ)) (o : Op) (m : ℕ) → (one_command_more (context whole begun version objects threads here count atomics thread blocks)).count ≡ m → context_of (record (from thread blocks) { place = with_op (from thread blocks).place blocks m o }) atomics ≡ behind_word (context whole begun version objects threads here count atomics thread blocks) n (Some (word.Say v)) args
  said_place thread [] v args o m e = rw (sym e) (ap (λ (x : ℕ). record { whole = whole; begun = begun; version = version; names = kinds_of objects; cells = next_from 0 objects; thread = thread; commands = x; blocks = []; count = 0 }) (length-append here (command.One o ∷ [])))
  said_place thread (b ∷ outer) v args o m e = rw (sym e) refl

  said_comes : (thread : Option ℕ) (blocks : List OpenBlock) (v : Verb) (args : List (List ℕ)) → said_line (from thread blocks) v args ≡ Ok t → Comes thread blocks (Some (word.Say v)) args
  unfolding said_line op_line
  said_comes None blocks v args e = absurd cc
  said_comes (Some i) blocks v args e =
      let s = from (Some i) blocks in
      let a = bind_ok (say i objects v args) (λ o. at_new_place s (op_line s.place o)) t e in
      new_place (Some i) blocks (Some (word.Say v)) args (op_line s.place a.0) a.2 (λ p f.
      let last = λ (m : ℕ). given (with_op s.place blocks m a.0) in
      let b = bind_ok (counted_up s.place blocks) last p f in
      subst (λ (x : Place). context_of (record s { place = x }) atomics ≡ behind_word (context whole begun version objects threads here count atomics (Some i) blocks) n (Some (word.Say v)) args) (ok_is _ _ b.2) (said_place (Some i) blocks v args a.0 b.0 (counted_is (Some i) blocks b.0 b.1)))

  declared_comes : (thread : Option ℕ) (blocks : List OpenBlock) (k : Kind) (args : List (List ℕ)) → declared_line (from thread blocks) k args ≡ Ok t → Comes thread blocks (Some (word.Declare k)) args
  unfolding declared_line
  declared_comes (Some i) blocks k args e = absurd cc
  declared_comes None blocks k args e =
      let s = from None blocks in
      let last = λ (entry : List ℕ × Object). given (with_object s entry) in
      let a = bind_ok (declare objects k args) last t e in
      let is = declare_is objects k args a.0 a.1 in
      let sum = next_from_more 0 objects a.0 ∙ ap (λ size. next_from 0 objects + size) is.2 in
      let names = kinds_more objects a.0 (word_at args 0) k is.0 is.1 in
      subst (λ (x : ReadingState). context_of x atomics ≡ behind_word (context whole begun version objects threads here count atomics None blocks) n (Some (word.Declare k)) args) (ok_is _ _ a.2)
      (ap (λ (x : Kinds). record { whole = whole; begun = begun; version = version; names = x; cells = next_from 0 (objects ++ a.0 ∷ []); thread = None; commands = begun_in blocks here; blocks = opened blocks atomics; count = count }) names
      ∙ ap (λ (x : ℕ). record { whole = whole; begun = begun; version = version; names = kinds_of objects ++ (word_at args 0, k) ∷ []; cells = x; thread = None; commands = begun_in blocks here; blocks = opened blocks atomics; count = count }) sum)

  word_comes : (thread : Option ℕ) (blocks : List OpenBlock) (first : List ℕ) (w : Option Word) (args : List (List ℕ)) → worded_line (from thread blocks) first w args ≡ Ok t → Comes thread blocks w args
  unfolding worded_line
  word_comes thread blocks first None args e = ap (λ (x : ReadingState). context_of x atomics) (unknown_comes (from thread blocks) t first args e)
  word_comes thread blocks first (Some word.Thread) args e = thread_comes thread blocks args e
  word_comes thread blocks first (Some word.Atomic) args e = atomic_comes thread blocks args e
  word_comes thread blocks first (Some word.Or) args e = or_comes thread blocks args e
  word_comes thread blocks first (Some word.End) args e = end_comes thread blocks args e
  word_comes thread blocks first (Some (word.Declare k)) args e = declared_comes thread blocks k args e
  word_comes thread blocks first (Some (word.Say v)) args e = said_comes thread blocks v args e

-- a word that the version hasn't leaves the open blocks as any declaration does
same_atomics : (version : Version) (atomics : List ℕ) (n : ℕ) (w : Option Word) → atomics_behind atomics n (word_in version w) ≡ atomics_behind atomics n w
same_atomics version atomics n None = refl
same_atomics version atomics n (Some word.Thread) = refl
same_atomics version atomics n (Some word.Atomic) = refl
same_atomics version atomics n (Some word.Or) = refl
same_atomics version atomics n (Some word.End) = refl
same_atomics version atomics n (Some (word.Say v)) = refl
same_atomics version atomics n (Some (word.Declare k)) = by (has_kind version k) where
  by : (b : Bool) → atomics_behind atomics n (cond b (Some (word.Declare k)) None) ≡ atomics
  by true = refl
  by false = refl

pub line_comes : (s t : ReadingState) (atomics : List ℕ) (n : ℕ) (line : Line) → content_line s line ≡ Ok t → context_of t (atomics_after s.begun atomics n line) ≡ next_context (context_of s atomics) n line
unfolding content_line header_line
line_comes s t atomics n [] e = absurd cc
line_comes s t atomics n (first ∷ args) e = by s.begun e where
  by : (b : Bool) → cond b (worded_line s first (word_in s.version (word_of first)) args) (header_line s (first ∷ args)) ≡ Ok t → context_of t (cond b (atomics_behind atomics n (word_of first)) atomics) ≡ cond b (behind_word (context_of s atomics) n (word_in s.version (word_of first)) args) (record (context_of s atomics) { begun = true; version = version_or (version_of (word_at args 0)) })
  by true e = ap (context_of t) (sym (same_atomics s.version atomics n (word_of first))) ∙ word_comes s.whole s.begun s.version s.objects s.threads s.place.here s.place.count atomics n t s.thread s.place.open_blocks first (word_in s.version (word_of first)) args e
  by false e =
      let h = header_read s t (first ∷ args) e in
      ap (λ (x : ReadingState). context_of x atomics) (sym h.is) ∙ ap (λ (v : Version). record (context_of s atomics) { begun = true; version = v }) (sym (ap version_or h.said))

-- ---- lines of open blocks

abbrev lines_in : List OpenAt → List ℕ
lines_in [] = []
lines_in (b ∷ outer) = b.line ∷ lines_in outer

first_true : (x : Bool) (why : Why) (rest : List (Bool × Why)) → first_failing ((x, why) ∷ rest) ≡ None → x ≡ true
first_true true why rest e = refl
first_true false why rest e = absurd cc

none_open : (blocks : List OpenAt) (atomics : List ℕ) → not (is_open blocks) ≡ true → lines_in blocks ≡ atomics → [] ≡ atomics
none_open [] atomics e h = h
none_open (b ∷ outer) atomics e h = absurd cc

deeper_lines : (blocks : List OpenAt) → lines_in (deeper blocks) ≡ lines_in blocks
deeper_lines [] = refl
deeper_lines (b ∷ outer) = refl

ended_lines : (c : Context) (blocks : List OpenAt) → c.blocks ≡ blocks → lines_in (ended_block c blocks).blocks ≡ drop 1 (lines_in blocks)
ended_lines c [] e = ap lines_in e
ended_lines c (b ∷ []) e = refl
ended_lines c (b ∷ o ∷ outer) e = refl

more_lines : (c : Context) → lines_in (one_command_more c).blocks ≡ lines_in c.blocks
more_lines c = by (is_open c.blocks) where
  by : (b : Bool) → lines_in (cond b (record c { count = c.count + 1 }) (record c { commands = c.commands + 1; count = 0 })).blocks ≡ lines_in c.blocks
  by true = refl
  by false = refl

word_lines : (c : Context) (atomics : List ℕ) (n : ℕ) (first : List ℕ) (w : Option Word) (args : List (List ℕ)) → first_failing (line_word_tests c first w args) ≡ None → lines_in c.blocks ≡ atomics → lines_in (behind_word c n w args).blocks ≡ atomics_behind atomics n w
word_lines c atomics n first None args e h = h
word_lines c atomics n first (Some word.Thread) args e h = none_open c.blocks atomics (first_true _ UnclosedBlock ((c.whole, StrayWord) ∷ (args_tests c.names [] args ++ limit_tests c word.Thread args)) e) h
word_lines c atomics n first (Some word.Atomic) args e h = ap (λ (rest : List ℕ). n ∷ rest) h
word_lines c atomics n first (Some word.Or) args e h = deeper_lines c.blocks ∙ h
word_lines c atomics n first (Some word.End) args e h = ended_lines c c.blocks refl ∙ ap (drop 1) h
word_lines c atomics n first (Some (word.Declare k)) args e h = h
word_lines c atomics n first (Some (word.Say v)) args e h = more_lines c ∙ h

line_lines : (c : Context) (atomics : List ℕ) (n : ℕ) (line : Line) → first_failing (tests c line) ≡ None → lines_in c.blocks ≡ atomics → lines_in (next_context c n line).blocks ≡ atomics_after c.begun atomics n line
line_lines c atomics n [] e h = h
line_lines c atomics n (first ∷ args) e h = by c.begun e where
  by : (b : Bool) → first_failing (cond b (line_word_tests c first (word_in c.version (word_of first)) args) ((is_header (first ∷ args), Header) ∷ [])) ≡ None → lines_in (cond b (behind_word c n (word_in c.version (word_of first)) args) (record c { begun = true; version = version_or (version_of (word_at args 0)) })).blocks ≡ cond b (atomics_behind atomics n (word_of first)) atomics
  by true e = word_lines c atomics n first (word_in c.version (word_of first)) args e h ∙ same_atomics c.version atomics n (word_of first)
  by false e = h

-- ---- the line of a fault

nearest_is : (blocks : List OpenAt) → nearest_line (lines_in blocks) ≡ innermost blocks
nearest_is [] = refl
nearest_is (b ∷ outer) = refl

place_is : (c : Context) (atomics : List ℕ) (n : ℕ) (why : Why) → lines_in c.blocks ≡ atomics → place_of_fault (nearest_line atomics) n why ≡ fault_line c n why
place_is c atomics n Header h = refl
place_is c atomics n UnknownWord h = refl
place_is c atomics n UnknownName h = refl
place_is c atomics n RepeatedName h = refl
place_is c atomics n BadName h = refl
place_is c atomics n BadNumber h = refl
place_is c atomics n WrongKind h = refl
place_is c atomics n MissingWord h = refl
place_is c atomics n ExtraWord h = refl
place_is c atomics n UnclosedBlock h = ap nearest_line (sym h) ∙ nearest_is c.blocks
place_is c atomics n StrayWord h = refl
place_is c atomics n (TooMany limit) h = refl

abbrev pub fault_at : {A E : Type 0} → Result A E → Option E
fault_at (Ok x) = None
fault_at (Err fault) = Some fault

fault_is : {A : Type 0} (c : Context) (atomics : List ℕ) (n : ℕ) (r : Result A Why) (tests : List (Bool × Why)) → Tested r tests → lines_in c.blocks ≡ atomics → fault_at (at_line (nearest_line atomics) n r) ≡ fault_in c n tests
fault_is c atomics n (Ok x) tests t h = ap (option_map (λ why. (fault_line c n why, why))) t.same
fault_is c atomics n (Err why) tests t h = ap (λ (line : ℕ). Some (line, why)) (place_is c atomics n why h) ∙ ap (option_map (λ why. (fault_line c n why, why))) t.same

-- ---- all lines

-- one more line
reach_more : (front : List (List ℕ)) (text : List ℕ) (first s t : ReadingState) → all_lines first front ≡ Ok s → any_line s (words text) ≡ Ok t → all_lines first (front ++ text ∷ []) ≡ Ok t
unfolding all_lines
reach_more [] text first s t e f = rw (ok_is _ _ e, f) refl
reach_more (x ∷ front) text first s t e f =
    let a = bind_ok (any_line first (words x)) (λ next. all_lines next front) s e in
    rw a.1 (reach_more front text a.0 s t a.2 f)

made_of : (first : ReadingState) → MakesBlocks first → (front : List (List ℕ)) (s : ReadingState) → all_lines first front ≡ Ok s → (blocks : List OpenBlock) → s.place.open_blocks ≡ blocks → Made blocks
made_of first makes front s e [] o = tt
made_of first makes front s e (b ∷ outer) o = (_, makes front s b outer e o)

-- the end of the lines
end_fault_is : (s : ReadingState) (atomics : List ℕ) → Tested (reading_ended s) (end_tests (context_of s atomics))
unfolding reading_ended
end_fault_is s atomics = record { same = by s.begun s.place.open_blocks s } where
  by : (b : Bool) (blocks : List OpenBlock) (last : ReadingState) → fault_of (wants b Header >>= λ begun. wants (not (in_block blocks)) UnclosedBlock >>= λ none. given last) ≡ first_failing ((b, Header) ∷ (not (is_open (opened blocks atomics)), UnclosedBlock) ∷ [])
  by true [] last = refl
  by true (b ∷ outer) last = refl
  by false blocks last = refl

-- what is stated of the rest of the lines
abbrev Stop : List (List ℕ) → ReadingState → List ℕ → ℕ → Type 0
Stop texts s atomics n = fault_at (read_from s atomics n texts) ≡ first_fault_from (context_of s atomics) n texts

module _ (texts : List (List ℕ)) (s : ReadingState) (atomics : List ℕ) (n : ℕ) (ws : Line) (h : lines_in (context_of s atomics).blocks ≡ atomics) (more : (t : ReadingState) (after : List ℕ) → any_line s ws ≡ Ok t → lines_in (context_of t after).blocks ≡ after → Stop texts t after (n + 1)) where
  abbrev c : Context
  c = context_of s atomics

  abbrev rest : Option Fault
  rest = first_fault_from (next_context c n ws) (n + 1) texts

  -- a line that isn't skipped
  counts_stop : (r : Result ReadingState Why) → is_skipped ws ≡ false → content_line s ws ≡ r → Tested r (tests c ws) → fault_at (then_read (at_line (nearest_line atomics) n r) (λ next. read_from next (atomics_after s.begun atomics n ws) (n + 1) texts)) ≡ option_or (fault_in c n (tests c ws)) rest
  unfolding any_line
  counts_stop (Ok t) k f g =
      let same = line_comes s t atomics n ws f in
      let lined = line_lines c atomics n ws (sym g.same) h in
      more t (atomics_after s.begun atomics n ws) (rw k f) (ap (λ (x : Context). lines_in x.blocks) same ∙ lined)
      ∙ ap (λ (x : Context). first_fault_from x (n + 1) texts) same
      ∙ ap (λ (o : Option Why). option_or (option_map (λ why. (fault_line c n why, why)) o) rest) g.same
  counts_stop (Err why) k f g = ap (λ (o : Option Fault). option_or o rest) (fault_is c atomics n (Err why) (tests c ws) g h)

  any_stop : (b : Bool) → is_skipped ws ≡ b → Stop texts s atomics (n + 1) → Tested (content_line s ws) (tests c ws) → fault_at (then_read (at_line (nearest_line atomics) n (cond b (Ok s) (content_line s ws))) (λ next. read_from next (cond b atomics (atomics_after s.begun atomics n ws)) (n + 1) texts)) ≡ cond b (first_fault_from c (n + 1) texts) (option_or (fault_in c n (tests c ws)) rest)
  any_stop true k skip g = skip
  any_stop false k skip g = counts_stop (content_line s ws) k refl g

-- the reader stops where these lines have their first fault
lines_stop : (first : ReadingState) → MakesBlocks first → (texts : List (List ℕ)) (front : List (List ℕ)) (s : ReadingState) (atomics : List ℕ) (n : ℕ) → all_lines first front ≡ Ok s → lines_in (context_of s atomics).blocks ≡ atomics → Stop texts s atomics n
unfolding read_from first_fault_from any_line
lines_stop first makes [] front s atomics n e h = fault_is (context_of s atomics) atomics 1 (reading_ended s) (end_tests (context_of s atomics)) (end_fault_is s atomics) h
lines_stop first makes (text ∷ texts) front s atomics n e h =
    any_stop texts s atomics n (words text) h (λ t after f lined. lines_stop first makes texts (front ++ text ∷ []) t after (n + 1) (reach_more front text first s t e f) lined) (is_skipped (words text)) refl (lines_stop first makes texts front s atomics (n + 1) e h) (line_fault s atomics (words text) (made_of first makes front s e s.place.open_blocks refl))

-- the first fault of a part is where the reader stops
pub part_first : (first : ReadingState) → MakesBlocks first → lines_in (context_of first []).blocks ≡ [] → (bytes : List ℕ) → fault_at (part_read first bytes) ≡ first_fault_from (context_of first []) 1 (lines bytes)
unfolding part_read all_lines
part_first first makes none bytes = lines_stop first makes (lines bytes) [] first [] 1 refl none

pub opening_first : (whole : Bool) (bytes : List ℕ) → fault_at (part_read (opening_state whole) bytes) ≡ first_fault_from (start whole) 1 (lines bytes)
unfolding next_from
opening_first whole bytes = part_first (opening_state whole) (opening_makes whole) refl bytes

-- the first fault of bytes is where the reader stops
first_is : (bytes : List ℕ) → fault_at (spelled bytes) ≡ first_fault bytes
unfolding spelled first_fault
first_is bytes = by (part_read (opening_state true) bytes) (opening_first true bytes) where
  by : (r : Result ReadingState Fault) → fault_at r ≡ first_fault_from (start true) 1 (lines bytes) → fault_at (then_read r (λ s. Ok (script_at s))) ≡ first_fault_from (start true) 1 (lines bytes)
  by (Ok s) e = e
  by (Err fault) e = e

pub stops_first : (bytes : List ℕ) (fault : Fault) → spelled bytes ≡ Err fault → first_fault bytes ≡ Some fault
stops_first bytes fault e = sym (first_is bytes) ∙ ap fault_at e

-- bytes with no fault spell a script
pub spells_some : (bytes : List ℕ) → first_fault bytes ≡ None → (s : Script) × Spells bytes s
spells_some bytes e = by (spelled bytes) refl where
  by : (r : Result Script Fault) → spelled bytes ≡ r → (s : Script) × Spells bytes s
  by (Ok s) f = (s, spelled_spells bytes s f)
  by (Err fault) f = let h = stops_first bytes fault f in absurd cc

-- bytes with a first fault spell none
pub spells_none : (bytes : List ℕ) (fault : Fault) → first_fault bytes ≡ Some fault → SpellNone bytes
spells_none bytes fault e s p =
    let h = sym (first_is bytes) ∙ ap fault_at (spells_spelled bytes s p) in
    cc

-- ---- what is parsed

pub parse_spells : (bytes : List ℕ) (r : Result Bundle ScriptError) → Spelled script_of r (spelled bytes) → IfOk r (λ bundle. Spells bytes (script_of bundle))
parse_spells bytes (Ok bundle) e = spelled_spells bytes (script_of bundle) e
parse_spells bytes (Err error) e = tt

pub parse_refuses : (bytes : List ℕ) (r : Result Bundle ScriptError) → Spelled script_of r (spelled bytes) → IfErr r (Refused bytes)
parse_refuses bytes (Ok bundle) e = tt
parse_refuses bytes (Err (error.Fault line why)) e = let f = stops_first bytes (line, why) e in (f, spells_none bytes (line, why) f)
parse_refuses bytes (Err error.NoMemory) e = tt
