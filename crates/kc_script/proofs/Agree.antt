-- The reader, line by line, reads a script exactly where the grammar has the bytes spell it.
use Rattle.std.proofs.Common.{◌≡◌, ℕ, ◌+◌, ◌≤◌, ◌<◌, Bool, true, ltb, leb, List, [], ◌∷◌, ◌++◌, length, Option, Some, None, Result, Ok, refl, sym, ap, subst, ◌∙◌, append_assoc, arith, length-append}
use Rattle.std.proofs.lemmas.List.{append-nil}
use Rattle.std.proofs.lemmas.Bool.{lt-ltb, le-leb}
use Rattle.kc_script_bundle.specs.declared.object.Object.{Object}
use Rattle.kc_script_bundle.specs.declared.operation.Command.{Command}
use Rattle.kc_script_bundle.specs.declared.operation.Op.{Op}
use Rattle.kc_script_lines.specs.Tests.{◌>>=◌}
use Rattle.kc_script_lines.specs.Words.{lines}
use Rattle.kc_script_lines.specs.declared.fault.Why.{Why}
use Rattle.kc_term.specs.Tree.{Tree, op, seq, trees}
use Rattle.kc_script_bundle.specs.declared.operation.Command.TheVariants as command
use Rattle.kc_script_bundle.specs.Script.{Names, Script}
use Rattle.kc_script_verbs.specs.declared.verb.Verb.{Verb}
use Rattle.kc_script_verbs.specs.declared.word.Kind.{Kind}
use Rattle.kc_script_verbs.specs.declared.word.Word.{Word}
use Rattle.kc_script_verbs.specs.declared.word.Word.TheVariants as word
use Rattle.kc_script.proofs.Numbered.{is_part}
use Rattle.kc_script.proofs.Spelled.{block_small}
use Rattle.std.proofs.Common.{codes}
use Rattle.kc_script_verbs.specs.Words.{kind_of, verb_of, object_verb_of, loc_word, plain_loc_word, choosing_loc_word, stack_word, queue_word, table_word, cache_word, mvar_word, promise_word, acc_word}
use Rattle.kc_script.proofs.Heads.{number_parts}
use Rattle.kc_model.specs.declared.footprint.TheConstants.{MOST}
use Rattle.kc_script_lines.specs.Tests.{is_number, positive_to, number_to}
use Rattle.kc_script_lines.specs.Words.{value_on, number}
use Rattle.kc_script.specs.Version.{limit_of, has_kind}
use Rattle.kc_script.specs.Reading.{unknown_line}
use Rattle.kc_script.specs.Reading.{limit_line as limit_at}
use Rattle.kc_script.specs.Spells.{Begins, old_header, spelled_limit}
use Rattle.kc_script.specs.declared.reader.Version.{Version}
use Rattle.kc_script.specs.declared.reader.Version.TheVariants as version
use Rattle.kc_script.proofs.Took.{outside, at, inside, all_contents, skipping}
use Rattle.kc_script.proofs.Trees.{nested, nested_push, nest_ok, IsSmall}
use Rattle.kc_script.specs.Blocks.{OpenBlock, Place, sequence, nest, op_line, counted_up, or_at, end_at}
use Rattle.kc_script.specs.Blocks.{atomic_line as atomic_at}
use Rattle.kc_script.specs.Reading.{ReadingState, opening_state, declared_line, said_line, begun_block, worded_line, header_line, content_line, reading_ended, script_at, spelled}
use Rattle.kc_script.specs.Reading.{thread_line as opened_thread}
use Rattle.kc_script.specs.Spells.{Line, header, spelled_thread, spelled_atomic, or_line, end_line, Declare, Block, Say, Threads, Spells}
use Rattle.kc_script_verbs.proofs.ObjectRows.{declares_declared}
use Rattle.kc_script_verbs.proofs.Rows.{says_said}
use Rattle.kc_script_verbs.proofs.Tested.{declare_is}
use Rattle.kc_script_verbs.specs.Declaring.{declare, declared_by, declared}
use Rattle.kc_script_verbs.specs.Fields.{object_kind}
use Rattle.kc_script_verbs.specs.Saying.{say, said_by, said}
use Rattle.kc_script_verbs.specs.Words.{structure_word, word_of}

-- a line was read, and then the others
read_on : (s next : ReadingState) (line : Line) (ls : List Line) → content_line s line ≡ Ok next → all_contents s (line ∷ ls) ≡ all_contents next ls
read_on s next line ls e = ap (λ (r : Result ReadingState Why). r >>= λ next. all_contents next ls) e

-- a word that says an operation
said_word : (thread : ℕ) (names : Names) (w : Option Word) (args : List (List ℕ)) (o : Op) → said_by thread names w args ≡ Ok o → (v : Verb) × (w ≡ Some (word.Say v)) × (say thread names v args ≡ Ok o)
said_word thread names None args o e = absurd cc
said_word thread names (Some word.Thread) args o e = absurd cc
said_word thread names (Some word.Atomic) args o e = absurd cc
said_word thread names (Some word.Or) args o e = absurd cc
said_word thread names (Some word.End) args o e = absurd cc
said_word thread names (Some (word.Declare k)) args o e = absurd cc
said_word thread names (Some (word.Say v)) args o e = (v, refl, e)

-- a word that declares an object
declared_word : (names : Names) (w : Option Word) (args : List (List ℕ)) (entry : List ℕ × Object) → declared_by names w args ≡ Ok entry → (k : Kind) × (w ≡ Some (word.Declare k)) × (declare names k args ≡ Ok entry)
declared_word names None args entry e = absurd cc
declared_word names (Some word.Thread) args entry e = absurd cc
declared_word names (Some word.Atomic) args entry e = absurd cc
declared_word names (Some word.Or) args entry e = absurd cc
declared_word names (Some word.End) args entry e = absurd cc
declared_word names (Some (word.Declare k)) args entry e = (k, refl, e)
declared_word names (Some (word.Say v)) args entry e = absurd cc

-- the place behind the end of a block
abbrev behind : List Command → List OpenBlock → ℕ → Tree Op → Place
behind here [] count t = at (here ++ command.Block t ∷ []) [] 0
behind here (o ∷ outer) count t = at here (record o { parts = o.parts ++ t ∷ [] } ∷ outer) count

module _ (ver : Version) where
  module _ (whole : Bool) (names : Names) (threads : List (List Command)) (thread : ℕ) (here : List Command) where
    -- an operation outside blocks
    one_inside : (count : ℕ) (line : Line) (o : Op) → said thread names line ≡ Ok o → length here < 4096 → content_line (inside ver whole names threads thread (at here [] count)) line ≡ Ok (inside ver whole names threads thread (at (here ++ command.One o ∷ []) [] 0))
    unfolding content_line worded_line said_line op_line counted_up
    one_inside count [] o e lt = absurd cc
    one_inside count (first ∷ args) o e lt =
        let w = said_word thread names (word_of first) args o e in
        let room : ltb (length here) 4096 ≡ true = lt-ltb (length here) 4096 lt in
        rw (w.1, w.2, room) refl

    -- an operation in a block
    part_inside : (b : OpenBlock) (outer : List OpenBlock) (count : ℕ) (line : Line) (o : Op) → said thread names line ≡ Ok o → count < 16 → content_line (inside ver whole names threads thread (at here (b ∷ outer) count)) line ≡ Ok (inside ver whole names threads thread (at here (record b { parts = b.parts ++ op o ∷ [] } ∷ outer) (count + 1)))
    unfolding content_line worded_line said_line op_line counted_up
    part_inside b outer count [] o e lt = absurd cc
    part_inside b outer count (first ∷ args) o e lt =
        let w = said_word thread names (word_of first) args o e in
        let room : ltb count 16 ≡ true = lt-ltb count 16 lt in
        rw (w.1, w.2, room) refl

    -- a block begins
    atomic_inside : (count : ℕ) → length here < 4096 → content_line (inside ver whole names threads thread (at here [] count)) spelled_atomic ≡ Ok (inside ver whole names threads thread (at here (record { level = 0; done = []; parts = [] } ∷ []) 0))
    unfolding content_line worded_line begun_block atomic_at counted_up word_of structure_word
    atomic_inside count lt =
        let room : ltb (length here) 4096 ≡ true = lt-ltb (length here) 4096 lt in
        rw room refl

    -- a block begins in a block
    inner_inside : (b : OpenBlock) (outer : List OpenBlock) (count : ℕ) → count < 16 → b.level < 8 → content_line (inside ver whole names threads thread (at here (b ∷ outer) count)) spelled_atomic ≡ Ok (inside ver whole names threads thread (at here (record { level = b.level + 1; done = []; parts = [] } ∷ b ∷ outer) (count + 1)))
    unfolding content_line worded_line begun_block atomic_at counted_up word_of structure_word
    inner_inside b outer count lt shallow =
        let room : ltb count 16 ≡ true = lt-ltb count 16 lt in
        let depth : leb (b.level + 1) 8 ≡ true = le-leb (b.level + 1) 8 (omega (arith, shallow)) in
        rw (room, depth) refl

    -- another alternative begins
    or_inside : (b : OpenBlock) (outer : List OpenBlock) (count : ℕ) → b.level < 8 → content_line (inside ver whole names threads thread (at here (b ∷ outer) count)) or_line ≡ Ok (inside ver whole names threads thread (at here (record { level = b.level + 1; done = b.done ++ b.parts ∷ []; parts = [] } ∷ outer) count))
    unfolding content_line worded_line or_at word_of structure_word
    or_inside b outer count shallow =
        let depth : ltb b.level 8 ≡ true = lt-ltb b.level 8 shallow in
        rw depth refl

    -- a block ends
    end_inside : (b : OpenBlock) (outer : List OpenBlock) (count : ℕ) (t : Tree Op) → nest b.done (sequence b.parts) ≡ Ok t → content_line (inside ver whole names threads thread (at here (b ∷ outer) count)) end_line ≡ Ok (inside ver whole names threads thread (behind here outer count t))
    unfolding content_line worded_line end_at word_of structure_word
    end_inside b [] count t made = rw made refl
    end_inside b (o ∷ outer) count t made = rw made refl

    -- the lines of a block are read up to its end
    block_lines : (level : ℕ) (parts : List (Tree Op)) (count : ℕ) (ls : List Line) (tree : Tree Op) (total : ℕ) → Block thread names level parts count ls tree total → (done : List (List (Tree Op))) (outer : List OpenBlock) (more : List Line) → IsSmall (nested done tree) → all_contents (inside ver whole names threads thread (at here (record { level = level; done = done; parts = parts } ∷ outer) count)) (ls ++ end_line ∷ more) ≡ all_contents (inside ver whole names threads thread (behind here outer total (nested done tree))) more
    block_lines level parts count _ _ _ Block.ends done outer more small =
        let b : OpenBlock = record { level = level; done = done; parts = parts } in
        read_on (inside ver whole names threads thread (at here (b ∷ outer) count)) (inside ver whole names threads thread (behind here outer count (nested done (seq (trees parts))))) end_line more (end_inside b outer count (nested done (seq (trees parts))) (nest_ok done parts small))
    block_lines level parts count _ tree total (Block.one {lines = ls} line o e lt rest) done outer more small =
        let b : OpenBlock = record { level = level; done = done; parts = parts } in
        read_on (inside ver whole names threads thread (at here (b ∷ outer) count)) (inside ver whole names threads thread (at here (record b { parts = parts ++ op o ∷ [] } ∷ outer) (count + 1))) line (ls ++ end_line ∷ more) (part_inside b outer count line o (says_said thread names line o e) lt)
        ∙ block_lines level (parts ++ op o ∷ []) (count + 1) ls tree total rest done outer more small
    block_lines level parts count _ _ total (Block.other {lines = ls} {tree = tree} shallow rest) done outer more small =
        let b : OpenBlock = record { level = level; done = done; parts = parts } in
        let push = nested_push done parts tree in
        read_on (inside ver whole names threads thread (at here (b ∷ outer) count)) (inside ver whole names threads thread (at here (record { level = level + 1; done = done ++ parts ∷ []; parts = [] } ∷ outer) count)) or_line (ls ++ end_line ∷ more) (or_inside b outer count shallow)
        ∙ block_lines (level + 1) [] count ls tree total rest (done ++ parts ∷ []) outer more (subst IsSmall (sym push) small)
        ∙ ap (λ (t : Tree Op). all_contents (inside ver whole names threads thread (behind here outer total t)) more) push
    block_lines level parts count _ tree total (Block.inner {within = within} {inside = mid} {lines = ls} {block = block} shallow lt begun rest) done outer more small =
        let b : OpenBlock = record { level = level; done = done; parts = parts } in
        let c : OpenBlock = record { level = level + 1; done = []; parts = [] } in
        let place = inside ver whole names threads thread (at here (c ∷ b ∷ outer) (count + 1)) in
        let within_limits = block_small thread names (level + 1) (count + 1) mid block within (omega (arith, shallow)) (omega (arith, lt)) begun in
        read_on (inside ver whole names threads thread (at here (b ∷ outer) count)) place spelled_atomic ((mid ++ end_line ∷ ls) ++ end_line ∷ more) (inner_inside b outer count lt shallow)
        ∙ ap (all_contents place) (append_assoc mid (end_line ∷ ls) (end_line ∷ more))
        ∙ block_lines (level + 1) [] (count + 1) mid block within begun [] (b ∷ outer) (ls ++ end_line ∷ more) within_limits
        ∙ block_lines level (parts ++ block ∷ []) within ls tree total rest done outer more small

  -- commands are read in a thread
  pub say_read : (whole : Bool) (names : Names) (threads : List (List Command)) (thread : ℕ) (here : List Command) (ls : List Line) (cs : List Command) (more : List Line) → Say thread names ls cs → length (here ++ cs) ≤ 4096 → all_contents (inside ver whole names threads thread (at here [] 0)) (ls ++ more) ≡ all_contents (inside ver whole names threads thread (at (here ++ cs) [] 0)) more
  say_read whole names threads thread here ls cs more Say.none few = rw append-nil refl
  say_read whole names threads thread here _ _ more (Say.one {lines = ls} {commands = cs} line o e rest) few =
      let c = command.One o in
      let joined : (here ++ c ∷ []) ++ cs ≡ here ++ c ∷ cs = append_assoc here (c ∷ []) cs in
      let lt : length here < 4096 = omega (arith, few, length-append here (c ∷ cs)) in
      read_on (inside ver whole names threads thread (at here [] 0)) (inside ver whole names threads thread (at (here ++ c ∷ []) [] 0)) line (ls ++ more) (one_inside whole names threads thread here 0 line o (says_said thread names line o e) lt)
      ∙ say_read whole names threads thread (here ++ c ∷ []) ls cs more rest (subst (λ (x : List Command). length x ≤ 4096) (sym joined) few)
      ∙ ap (λ (x : List Command). all_contents (inside ver whole names threads thread (at x [] 0)) more) joined
  say_read whole names threads thread here _ _ more (Say.block {inside = mid} {lines = ls} {commands = cs} {tree = tree} {total = total} b rest) few =
      let c = command.Block tree in
      let joined : (here ++ c ∷ []) ++ cs ≡ here ++ c ∷ cs = append_assoc here (c ∷ []) cs in
      let lt : length here < 4096 = omega (arith, few, length-append here (c ∷ cs)) in
      let place = inside ver whole names threads thread (at here (record { level = 0; done = []; parts = [] } ∷ []) 0) in
      let small = block_small thread names 0 0 mid tree total (omega arith) (omega arith) b in
      read_on (inside ver whole names threads thread (at here [] 0)) place spelled_atomic ((mid ++ end_line ∷ ls) ++ more) (atomic_inside whole names threads thread here 0 lt)
      ∙ ap (all_contents place) (append_assoc mid (end_line ∷ ls) more)
      ∙ block_lines whole names threads thread here 0 [] 0 mid tree total b [] [] (ls ++ more) small
      ∙ say_read whole names threads thread (here ++ c ∷ []) ls cs more rest (subst (λ (x : List Command). length x ≤ 4096) (sym joined) few)
      ∙ ap (λ (x : List Command). all_contents (inside ver whole names threads thread (at x [] 0)) more) joined

  -- a further thread begins
  thread_inside : (names : Names) (threads : List (List Command)) (thread next : ℕ) (here : List Command) → next ≡ thread + 1 → next < 16 → content_line (inside ver true names threads thread (at here [] 0)) spelled_thread ≡ Ok (inside ver true names (threads ++ here ∷ []) next (at [] [] 0))
  unfolding content_line worded_line opened_thread word_of structure_word
  thread_inside names threads thread next here e lt =
      let room : ltb (thread + 1) 16 ≡ true = lt-ltb (thread + 1) 16 (omega (arith, e, lt)) in
      rw (e, room) refl

  -- the first thread begins
  thread_outside : (names : Names) → content_line (outside ver true names) spelled_thread ≡ Ok (inside ver true names [] 0 (at [] [] 0))
  unfolding content_line worded_line opened_thread word_of structure_word
  thread_outside names = refl

  -- the lines are read to their end, with this script
  record ToEnd (first : ReadingState) (ls : List Line) (s : Script) : Type 0 where
    last : ReadingState
    read : all_contents first ls ≡ Ok last
    ended : reading_ended last ≡ Ok last
    is : script_at last ≡ s

  -- the lines end in a thread
  inside_ended : (names : Names) (threads : List (List Command)) (thread : ℕ) (here : List Command) → ToEnd (inside ver true names threads thread (at here [] 0)) [] (record { limit = limit_of ver; objects = names; threads = threads ++ here ∷ [] })
  unfolding reading_ended
  inside_ended names threads thread here = record { last = inside ver true names threads thread (at here [] 0); read = refl; ended = refl; is = refl }

  outside_ended : (names : Names) → ToEnd (outside ver true names) [] (record { limit = limit_of ver; objects = names; threads = [] })
  unfolding reading_ended
  outside_ended names = record { last = outside ver true names; read = refl; ended = refl; is = refl }

  -- further threads are read
  threads_read : (names : Names) (front : List (List Command)) (thread next : ℕ) (here : List Command) (ls : List Line) (threads : List (List Command)) → next ≡ thread + 1 → Threads names next ls threads → ToEnd (inside ver true names front thread (at here [] 0)) ls (record { limit = limit_of ver; objects = names; threads = front ++ here ∷ threads })
  threads_read names front thread next here ls threads e Threads.none = inside_ended names front thread here
  threads_read names front thread next here _ _ e (Threads.one {lines = ls} {more = more} {commands = cs} {threads = threads} lt says short rest) =
      let joined : (front ++ here ∷ []) ++ cs ∷ threads ≡ front ++ here ∷ cs ∷ threads = append_assoc front (here ∷ []) (cs ∷ threads) in
      let r = threads_read names (front ++ here ∷ []) next (next + 1) cs more threads refl rest in
      record {
        last = r.last;
        read = read_on (inside ver true names front thread (at here [] 0)) (inside ver true names (front ++ here ∷ []) next (at [] [] 0)) spelled_thread (ls ++ more) (thread_inside names front thread next here e lt)
            ∙ say_read true names (front ++ here ∷ []) next [] ls cs more says short
            ∙ r.read;
        ended = r.ended;
        is = r.is ∙ ap (λ (x : List (List Command)). record { limit = limit_of ver; objects = names; threads = x }) joined;
      }

  -- all threads are read
  all_threads_read : (names : Names) (ls : List Line) (threads : List (List Command)) → Threads names 0 ls threads → ToEnd (outside ver true names) ls (record { limit = limit_of ver; objects = names; threads = threads })
  all_threads_read names ls threads Threads.none = outside_ended names
  all_threads_read names _ _ (Threads.one {lines = ls} {more = more} {commands = cs} {threads = threads} lt says short rest) =
      let r = threads_read names [] 0 1 cs more threads refl rest in
      record {
        last = r.last;
        read = read_on (outside ver true names) (inside ver true names [] 0 (at [] [] 0)) spelled_thread (ls ++ more) (thread_outside names) ∙ say_read true names [] 0 [] ls cs more says short ∙ r.read;
        ended = r.ended;
        is = r.is;
      }

  -- an object is read before any thread
  declared_outside : (whole : Bool) (names : Names) (line : Line) (entry : List ℕ × Object) → declared names line ≡ Ok entry → has_kind ver (object_kind entry.1) ≡ true → content_line (outside ver whole names) line ≡ Ok (outside ver whole (names ++ entry ∷ []))
  unfolding content_line worded_line declared_line
  declared_outside whole names [] entry e known = absurd cc
  declared_outside whole names (first ∷ args) entry e known =
      let w = declared_word names (word_of first) args entry e in
      let has : has_kind ver w.0 ≡ true = ap (has_kind ver) (sym (declare_is names w.0 args entry w.2).1) ∙ known in
      rw (w.1, has, w.2) refl

  -- objects are read
  pub declares_read : (whole : Bool) (names all : Names) (ls : List Line) (more : List Line) → Declare ver names ls all → all_contents (outside ver whole names) (ls ++ more) ≡ all_contents (outside ver whole all) more
  declares_read whole names all ls more Declare.none = refl
  declares_read whole names all _ more (Declare.one {lines = ls} line entry known e rest) =
      read_on (outside ver whole names) (outside ver whole (names ++ entry ∷ [])) line (ls ++ more) (declared_outside whole names line entry (declares_declared names line entry e) known)
      ∙ declares_read whole (names ++ entry ∷ []) all ls more rest

-- the header is read
header_outside : (whole : Bool) → (content_line (opening_state whole) header ≡ Ok (outside version.New whole [])) × (content_line (opening_state whole) old_header ≡ Ok (outside version.Old whole []))
unfolding content_line header_line
header_outside whole = (refl, refl)

-- a limit is no other word
no_word : word_of (codes "limit") ≡ None
unfolding word_of structure_word kind_of verb_of object_verb_of loc_word plain_loc_word choosing_loc_word stack_word queue_word table_word cache_word mvar_word promise_word acc_word
no_word = refl

-- a limit is read
limit_outside : (whole : Bool) (w : List ℕ) → is_number 1 MOST w ≡ true → content_line (outside version.New whole []) (spelled_limit w) ≡ Ok (outside (version.Limited (value_on 0 w)) whole [])
unfolding content_line worded_line unknown_line limit_at positive_to number_to number
limit_outside whole w e =
    let p = number_parts w e in
    rw (no_word, p.0, p.2, p.1) refl

-- the first lines are read
heading_read : (whole : Bool) (heading rest : List Line) (ver : Version) → Begins heading ver → all_contents (opening_state whole) (heading ++ rest) ≡ all_contents (outside ver whole []) rest
heading_read whole _ rest _ Begins.old = read_on (opening_state whole) (outside version.Old whole []) old_header rest (header_outside whole).1
heading_read whole _ rest _ Begins.new = read_on (opening_state whole) (outside version.New whole []) header rest (header_outside whole).0
heading_read whole _ rest _ (Begins.limited w e) =
    read_on (opening_state whole) (outside version.New whole []) header (spelled_limit w ∷ rest) (header_outside whole).0
    ∙ read_on (outside version.New whole []) (outside (version.Limited (value_on 0 w)) whole []) (spelled_limit w) rest (limit_outside whole w e)

-- a header and declarations are read
pub front_read : (whole : Bool) (heading : List Line) (ver : Version) → Begins heading ver → (all : Names) (ls more : List Line) → Declare ver [] ls all → all_contents (opening_state whole) (heading ++ (ls ++ more)) ≡ all_contents (outside ver whole all) more
front_read whole heading ver begins all ls more d = heading_read whole heading (ls ++ more) ver begins ∙ declares_read ver whole [] all ls more d

-- what is spelled is read
pub spells_spelled : (bytes : List ℕ) (s : Script) → Spells bytes s → spelled bytes ≡ Ok s
unfolding spelled
spells_spelled bytes s p =
    let r = all_threads_read p.version s.objects p.threading s.threads p.threads in
    let read = skipping (lines bytes) (opening_state true) ∙ ap (all_contents (opening_state true)) p.lines ∙ front_read true p.heading p.version p.begins s.objects p.declaring p.threading p.declares ∙ r.read in
    rw (is_part (opening_state true) bytes r.last read r.ended) (ap (λ (x : Script). Ok x) (r.is ∙ (λ i. record { limit = sym p.limit i; objects = s.objects; threads = s.threads })))

-- bytes spell at most one script
pub spells_one : (bytes : List ℕ) (s t : Script) → Spells bytes s → Spells bytes t → s ≡ t
spells_one bytes s t p q =
    let first = spells_spelled bytes s p in
    let second = spells_spelled bytes t q in
    cc
