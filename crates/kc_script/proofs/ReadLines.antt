-- What the reader reads, line by line, the grammar has the bytes spell.
use Rattle.std.proofs.Common.{◌≡◌, ℕ, ◌+◌, ◌≤◌, ◌<◌, Bool, true, false, ◌&&◌, eqb, List, [], ◌∷◌, ◌++◌, length, Option, Some, None, Ok, refl, sym, ap, subst, ◌∙◌, append_assoc, arith, length-append, inl, inr}
use Rattle.std.specs.Prelude.{◌⊎◌, codes}
use Rattle.std.specs.Str.{bytes_eq}
use Rattle.std.proofs.lemmas.List.{append-nil}
use Rattle.std.proofs.lemmas.Bool.{eqb-true}
use Rattle.std.proofs.lemmas.Slice.Eq.{bytes_eq-Decides}
use Rattle.kc_script_bundle.specs.declared.object.Object.{Object}
use Rattle.kc_script_bundle.specs.declared.operation.Command.{Command}
use Rattle.kc_script_bundle.specs.declared.operation.Op.{Op}
use Rattle.kc_script_lines.proofs.Given.{given, bind_ok, wants_ok, ok_is, none_counted}
use Rattle.kc_script_lines.specs.Tests.{◌>>=◌, wants, counted, word_at}
use Rattle.kc_script_lines.specs.Words.{lines}
use Rattle.kc_script_lines.specs.declared.fault.Why.TheVariants.{Header, StrayWord}
use Rattle.kc_term.specs.Tree.{Tree, op, seq, first, trees}
use Rattle.kc_script_bundle.specs.declared.operation.Command.TheVariants as command
use Rattle.kc_script_bundle.specs.Script.{Names, Script}
use Rattle.kc_script_verbs.specs.declared.word.Word.{Word}
use Rattle.kc_script_verbs.specs.declared.word.Word.TheVariants as word
use Rattle.kc_script.proofs.LineWords.{lone, known_is, kind_known, thread_word}
use Rattle.kc_script.proofs.Numbered.{then_made, part_is}
use Rattle.kc_script.proofs.Heads.{no_limit, unknown_comes, unknown_is}
use Rattle.kc_script_lines.specs.Words.{value_on}
use Rattle.kc_script_lines.specs.Tests.{found}
use Rattle.kc_script_lines.proofs.Given.{given}
use Rattle.kc_script.specs.Reading.{unknown_line}
use Rattle.kc_script.specs.Spells.{Begins, old_header, spelled_limit}
use Rattle.std.proofs.Common.{cond}
use Rattle.kc_script.specs.declared.reader.Version.{Version}
use Rattle.kc_script_verbs.proofs.Tested.{declare_is}
use Rattle.kc_script_verbs.specs.Fields.{object_kind}
use Rattle.kc_script.specs.declared.reader.Version.TheVariants as version
use Rattle.kc_script.specs.Version.{is_new, limit_of, version_of, has_kind, word_in}
use Rattle.kc_script.specs.Reading.{no_names, can_limit}
use Rattle.kc_script.proofs.Took.{outside, at, inside, all_contents, skipping, thread_took, one_took, block_took, part_took, inner_took, other_took, ends_took, out_took, in_took}
use Rattle.kc_script.proofs.Trees.{nested, nested_push}
use Rattle.kc_script.specs.Blocks.{OpenBlock, in_block, with_block, or_at, end_at}
use Rattle.kc_script.specs.Reading.{ReadingState, opening_state, nowhere, declared_line, said_line, begun_block, worded_line, header_line, content_line, script_at, part_read, spelled}
use Rattle.kc_script.specs.Reading.{thread_line as opened_thread}
use Rattle.kc_script.specs.Spells.{Line, contents, header, spelled_thread, spelled_atomic, or_line, end_line, Declare, Block, Say, Threads, Spells}
use Rattle.kc_script_verbs.proofs.ObjectRows.{declared_declares}
use Rattle.kc_script_verbs.proofs.Rows.{said_says}
use Rattle.kc_script_verbs.specs.Declaring.{declare, declared_by, declared}
use Rattle.kc_script_verbs.specs.Saying.{said}
use Rattle.kc_script_verbs.specs.Words.{word_of}

more_named : (names : Names) (entry : List ℕ × Object) → no_names (names ++ entry ∷ []) ≡ false
more_named [] entry = refl
more_named (e ∷ names) entry = refl

module _ (ver : Version) where
  -- ---- the lines that were read from a place in a thread

  -- no thread begins behind this one, with which the lines end
  pub record IsAlone (whole : Bool) (names : Names) (threads : List (List Command)) (thread : ℕ) (commands : List Command) (more : List Line) (t : ReadingState) : Type 0 where
    pub none : more ≡ []
    pub count : ℕ
    pub is : inside ver whole names threads thread (at commands [] count) ≡ t

  -- outside blocks
  pub record ThreadRead (whole : Bool) (names : Names) (threads : List (List Command)) (thread : ℕ) (here : List Command) (ls : List Line) (t : ReadingState) : Type 0 where
    pub saying : List Line
    pub more : List Line
    pub commands : List Command
    pub later : List (List Command)
    pub parts : ls ≡ saying ++ more
    pub said : Say thread names saying commands
    pub few : length (here ++ commands) ≤ 4096
    pub follow : Threads names (thread + 1) more later
    pub ends : script_at t ≡ record { limit = limit_of ver; objects = names; threads = threads ++ (here ++ commands) ∷ later }
    pub alone : whole ≡ false → IsAlone whole names threads thread (here ++ commands) more t

  -- in a block, with what was read behind its end
  pub record BlockRead (names : Names) (thread level : ℕ) (parts : List (Tree Op)) (count : ℕ) (ls : List Line) (Rest : Tree Op → ℕ → List Line → Type 0) : Type 0 where
    pub within : List Line
    pub more : List Line
    pub tree : Tree Op
    pub total : ℕ
    pub split : ls ≡ within ++ end_line ∷ more
    pub block : Block thread names level parts count within tree total
    pub follow : Rest tree total more

  -- behind the end of a block with these alternatives done, in these blocks
  abbrev pub Rest : Bool → Names → List (List Command) → ℕ → List Command → ReadingState → List (List (Tree Op)) → List OpenBlock → Tree Op → ℕ → List Line → Type 0
  Rest whole names threads thread here t done [] tree total more = ThreadRead whole names threads thread (here ++ command.Block (nested done tree) ∷ []) more t
  Rest whole names threads thread here t done (b ∷ outer) tree total more = BlockRead names thread b.level (b.parts ++ nested done tree ∷ []) total more (Rest whole names threads thread here t b.done outer)

  abbrev pub PlaceRead : Bool → Names → List (List Command) → ℕ → List Command → ReadingState → List OpenBlock → ℕ → List Line → Type 0
  PlaceRead whole names threads thread here t [] count ls = ThreadRead whole names threads thread here ls t
  PlaceRead whole names threads thread here t (b ∷ outer) count ls = BlockRead names thread b.level b.parts count ls (Rest whole names threads thread here t b.done outer)

  -- there is room for a block that is open
  abbrev pub HasRoom : List Command → List OpenBlock → Type 0
  HasRoom here [] = length here ≤ 4096
  HasRoom here (b ∷ outer) = length here < 4096

  module _ (whole : Bool) (names : Names) (threads : List (List Command)) (thread : ℕ) (here : List Command) (t : ReadingState) where
    -- the next line says an operation
    one_read : (line : Line) (o : Op) (ls : List Line) → said thread names line ≡ Ok o → ThreadRead whole names threads thread (here ++ command.One o ∷ []) ls t → ThreadRead whole names threads thread here (line ∷ ls) t
    one_read line o ls e r =
        let joined = append_assoc here (command.One o ∷ []) r.commands in
        record {
          saying = line ∷ r.saying;
          more = r.more;
          commands = command.One o ∷ r.commands;
          later = r.later;
          parts = ap (λ (rest : List Line). line ∷ rest) r.parts;
          said = Say.one line o (said_says thread names line o e) r.said;
          few = subst (λ (cs : List Command). length cs ≤ 4096) joined r.few;
          follow = r.follow;
          ends = subst (λ (cs : List Command). script_at t ≡ record { limit = limit_of ver; objects = names; threads = threads ++ cs ∷ r.later }) joined r.ends;
          alone = subst (λ (cs : List Command). whole ≡ false → IsAlone whole names threads thread cs r.more t) joined r.alone;
        }

    -- the next line begins a block
    block_read : (line : Line) (ls : List Line) → line ≡ spelled_atomic → BlockRead names thread 0 [] 0 ls (Rest whole names threads thread here t [] []) → ThreadRead whole names threads thread here (line ∷ ls) t
    block_read line ls e r =
        let f = r.follow in
        let joined = append_assoc here (command.Block r.tree ∷ []) f.commands in
        let split : ls ≡ (r.within ++ end_line ∷ f.saying) ++ f.more = r.split ∙ ap (λ (rest : List Line). r.within ++ end_line ∷ rest) f.parts ∙ sym (append_assoc r.within (end_line ∷ f.saying) f.more) in
        record {
          saying = spelled_atomic ∷ (r.within ++ end_line ∷ f.saying);
          more = f.more;
          commands = command.Block r.tree ∷ f.commands;
          later = f.later;
          parts = ap (λ (x : Line). x ∷ ls) e ∙ ap (λ (rest : List Line). spelled_atomic ∷ rest) split;
          said = Say.block r.block f.said;
          few = subst (λ (cs : List Command). length cs ≤ 4096) joined f.few;
          follow = f.follow;
          ends = subst (λ (cs : List Command). script_at t ≡ record { limit = limit_of ver; objects = names; threads = threads ++ cs ∷ f.later }) joined f.ends;
          alone = subst (λ (cs : List Command). whole ≡ false → IsAlone whole names threads thread cs f.more t) joined f.alone;
        }

    never : whole ≡ true → whole ≡ false → ⊥
    never is_whole is_part = cc

    -- the next line begins a thread
    thread_read : (line : Line) (ls : List Line) → whole ≡ true → line ≡ spelled_thread → thread + 1 < 16 → length here ≤ 4096 → ThreadRead whole names (threads ++ here ∷ []) (thread + 1) [] ls t → ThreadRead whole names threads thread here (line ∷ ls) t
    thread_read line ls is_whole e lt few r =
        let joined = append_assoc threads (here ∷ []) (r.commands ∷ r.later) in
        record {
          saying = [];
          more = spelled_thread ∷ (r.saying ++ r.more);
          commands = [];
          later = r.commands ∷ r.later;
          parts = ap (λ (x : Line). x ∷ ls) e ∙ ap (λ (rest : List Line). spelled_thread ∷ rest) r.parts;
          said = Say.none;
          few = rw append-nil few;
          follow = Threads.one lt r.said r.few r.follow;
          ends = rw append-nil (r.ends ∙ ap (λ (x : List (List Command)). record { limit = limit_of ver; objects = names; threads = x }) joined);
          alone = λ part. absurd (never is_whole part);
        }

    -- the lines have ended
    last_read : (count : ℕ) → length here ≤ 4096 → inside ver whole names threads thread (at here [] count) ≡ t → ThreadRead whole names threads thread here [] t
    last_read count few e = record {
      saying = [];
      more = [];
      commands = [];
      later = [];
      parts = refl;
      said = Say.none;
      few = rw append-nil few;
      follow = Threads.none;
      ends = rw append-nil (ap script_at (sym e));
      alone = λ part. record { none = refl; count = count; is = rw append-nil e };
    }

    -- in a block, the next line says an operation
    said_read : (level : ℕ) (parts : List (Tree Op)) (count : ℕ) (Rest : Tree Op → ℕ → List Line → Type 0) (line : Line) (o : Op) (ls : List Line) → said thread names line ≡ Ok o → count < 16 → BlockRead names thread level (parts ++ op o ∷ []) (count + 1) ls Rest → BlockRead names thread level parts count (line ∷ ls) Rest
    said_read level parts count Rest line o ls e lt r = record {
      within = line ∷ r.within;
      more = r.more;
      tree = r.tree;
      total = r.total;
      split = ap (λ (rest : List Line). line ∷ rest) r.split;
      block = Block.one line o (said_says thread names line o e) lt r.block;
      follow = r.follow;
    }

    -- in a block, the next line begins one
    inner_read : (b : OpenBlock) (outer : List OpenBlock) (count : ℕ) (line : Line) (ls : List Line) → line ≡ spelled_atomic → count < 16 → b.level < 8 → BlockRead names thread (b.level + 1) [] (count + 1) ls (Rest whole names threads thread here t [] (b ∷ outer)) → BlockRead names thread b.level b.parts count (line ∷ ls) (Rest whole names threads thread here t b.done outer)
    inner_read b outer count line ls e lt shallow r =
        let f = r.follow in
        let split : ls ≡ (r.within ++ end_line ∷ f.within) ++ end_line ∷ f.more = r.split ∙ ap (λ (rest : List Line). r.within ++ end_line ∷ rest) f.split ∙ sym (append_assoc r.within (end_line ∷ f.within) (end_line ∷ f.more)) in
        record {
          within = spelled_atomic ∷ (r.within ++ end_line ∷ f.within);
          more = f.more;
          tree = f.tree;
          total = f.total;
          split = ap (λ (x : Line). x ∷ ls) e ∙ ap (λ (rest : List Line). spelled_atomic ∷ rest) split;
          block = Block.inner shallow lt r.block f.block;
          follow = f.follow;
        }

    -- what follows the end of a block, with its last alternatives taken together
    rest_push : (done : List (List (Tree Op))) (parts : List (Tree Op)) (outer : List OpenBlock) (tree : Tree Op) (total : ℕ) (more : List Line) → Rest whole names threads thread here t (done ++ parts ∷ []) outer tree total more → Rest whole names threads thread here t done outer (first (seq (trees parts)) tree) total more
    rest_push done parts [] tree total more r = subst (λ (x : Tree Op). ThreadRead whole names threads thread (here ++ command.Block x ∷ []) more t) (nested_push done parts tree) r
    rest_push done parts (o ∷ outer) tree total more r = subst (λ (x : Tree Op). BlockRead names thread o.level (o.parts ++ x ∷ []) total more (Rest whole names threads thread here t o.done outer)) (nested_push done parts tree) r

    -- in a block, the next line begins another alternative
    other_read : (b : OpenBlock) (outer : List OpenBlock) (count : ℕ) (line : Line) (ls : List Line) → line ≡ or_line → b.level < 8 → BlockRead names thread (b.level + 1) [] count ls (Rest whole names threads thread here t (b.done ++ b.parts ∷ []) outer) → BlockRead names thread b.level b.parts count (line ∷ ls) (Rest whole names threads thread here t b.done outer)
    other_read b outer count line ls e shallow r = record {
      within = or_line ∷ r.within;
      more = r.more;
      tree = first (seq (trees b.parts)) r.tree;
      total = r.total;
      split = ap (λ (x : Line). x ∷ ls) e ∙ ap (λ (rest : List Line). or_line ∷ rest) r.split;
      block = Block.other shallow r.block;
      follow = rest_push b.done b.parts outer r.tree r.total r.more r.follow;
    }

    -- the next line ends the block
    end_read : (b : OpenBlock) (outer : List OpenBlock) (count : ℕ) (line : Line) (ls : List Line) → line ≡ end_line → Rest whole names threads thread here t b.done outer (seq (trees b.parts)) count ls → BlockRead names thread b.level b.parts count (line ∷ ls) (Rest whole names threads thread here t b.done outer)
    end_read b outer count line ls e r = record {
      within = [];
      more = ls;
      tree = seq (trees b.parts);
      total = count;
      split = ap (λ (x : Line). x ∷ ls) e;
      block = Block.ends;
      follow = r;
    }

  -- lines that were read from a place in a thread, up to where no block is open
  pub place_read : (ls : List Line) (whole : Bool) (names : Names) (threads : List (List Command)) (thread : ℕ) (here : List Command) (blocks : List OpenBlock) (count : ℕ) (t : ReadingState) → HasRoom here blocks → in_block t.place.open_blocks ≡ false → all_contents (inside ver whole names threads thread (at here blocks count)) ls ≡ Ok t → PlaceRead whole names threads thread here t blocks count ls
  unfolding content_line
  place_read [] whole names threads thread here [] count t room shut e = last_read whole names threads thread here t count room (ok_is _ _ e)
  place_read [] whole names threads thread here (b ∷ outer) count t room shut e = absurd (open_still (ok_is _ _ e)) where
    open_still : inside ver whole names threads thread (at here (b ∷ outer) count) ≡ t → ⊥
    open_still same = let h : in_block (b ∷ outer) ≡ false = ap (λ (s : ReadingState). in_block s.place.open_blocks) same ∙ shut in cc
  place_read ([] ∷ ls) whole names threads thread here blocks count t room shut e = absurd cc
  place_read ((head ∷ args) ∷ ls) whole names threads thread here [] count t room shut e =
      let a = bind_ok (content_line (inside ver whole names threads thread (at here [] count)) (head ∷ args)) (λ next. all_contents next ls) t e in
      elim (out_took ver whole names threads thread here count head args a.0 a.1) as (λ _. ThreadRead whole names threads thread here ((head ∷ args) ∷ ls) t) [
        | thread_took is_whole is lt same ↦ thread_read whole names threads thread here t (head ∷ args) ls is_whole is lt room (place_read ls whole names (threads ++ here ∷ []) (thread + 1) [] [] 0 t (omega arith) shut (subst (λ (s : ReadingState). all_contents s ls ≡ Ok t) (sym same) a.2))
        | one_took o said lt same ↦ one_read whole names threads thread here t (head ∷ args) o ls said (place_read ls whole names threads thread (here ++ command.One o ∷ []) [] 0 t (omega (arith, length-append here (command.One o ∷ []), lt)) shut (subst (λ (s : ReadingState). all_contents s ls ≡ Ok t) (sym same) a.2))
        | block_took is lt same ↦ block_read whole names threads thread here t (head ∷ args) ls is (place_read ls whole names threads thread here (record { level = 0; done = []; parts = [] } ∷ []) 0 t lt shut (subst (λ (s : ReadingState). all_contents s ls ≡ Ok t) (sym same) a.2))
      ]
  place_read ((head ∷ args) ∷ ls) whole names threads thread here (b ∷ outer) count t room shut e =
      let a = bind_ok (content_line (inside ver whole names threads thread (at here (b ∷ outer) count)) (head ∷ args)) (λ next. all_contents next ls) t e in
      let R = Rest whole names threads thread here t b.done outer in
      elim (in_took ver whole names threads thread here b outer count head args a.0 a.1) as (λ _. BlockRead names thread b.level b.parts count ((head ∷ args) ∷ ls) R) [
        | part_took o said lt same ↦ said_read whole names threads thread here t b.level b.parts count R (head ∷ args) o ls said lt (place_read ls whole names threads thread here (record b { parts = b.parts ++ op o ∷ [] } ∷ outer) (count + 1) t room shut (subst (λ (s : ReadingState). all_contents s ls ≡ Ok t) (sym same) a.2))
        | inner_took is lt shallow same ↦ inner_read whole names threads thread here t b outer count (head ∷ args) ls is lt shallow (place_read ls whole names threads thread here (record { level = b.level + 1; done = []; parts = [] } ∷ b ∷ outer) (count + 1) t room shut (subst (λ (s : ReadingState). all_contents s ls ≡ Ok t) (sym same) a.2))
        | other_took is shallow same ↦ other_read whole names threads thread here t b outer count (head ∷ args) ls is shallow (place_read ls whole names threads thread here (record { level = b.level + 1; done = b.done ++ b.parts ∷ []; parts = [] } ∷ outer) count t room shut (subst (λ (s : ReadingState). all_contents s ls ≡ Ok t) (sym same) a.2))
        | ends_took is same ↦ end_read whole names threads thread here t b outer count (head ∷ args) ls is (behind outer (λ blocks n c fits p. place_read ls whole names threads thread n blocks c t fits shut p) (subst (λ (s : ReadingState). all_contents s ls ≡ Ok t) (sym same) a.2))
      ]
    where
      behind : (outer : List OpenBlock) → ((blocks : List OpenBlock) (n : List Command) (c : ℕ) → HasRoom n blocks → all_contents (inside ver whole names threads thread (at n blocks c)) ls ≡ Ok t → PlaceRead whole names threads thread n t blocks c ls) → all_contents (inside ver whole names threads thread (with_block (at here (b ∷ outer) count) outer (nested b.done (seq (trees b.parts))))) ls ≡ Ok t → Rest whole names threads thread here t b.done outer (seq (trees b.parts)) count ls
      behind [] read p = read [] (here ++ command.Block (nested b.done (seq (trees b.parts))) ∷ []) 0 (omega (arith, length-append here (command.Block (nested b.done (seq (trees b.parts))) ∷ []), room)) p
      behind (o ∷ more) read p = read (record o { parts = o.parts ++ nested b.done (seq (trees b.parts)) ∷ [] } ∷ more) here count room p

  -- ---- lines that were read outside threads

  -- what a line did before any thread
  abbrev pub OutsideTook : Bool → Names → Line → ReadingState → Type 0
  OutsideTook whole names line next = ((whole ≡ true) × (line ≡ spelled_thread) × (inside ver whole names [] 0 nowhere ≡ next)) ⊎ ((entry : List ℕ × Object) × (declared names line ≡ Ok entry) × (outside ver whole (names ++ entry ∷ []) ≡ next) × (has_kind ver (object_kind entry.1) ≡ true))

  pub outside_first : (whole : Bool) (names : Names) (head : List ℕ) (args : List (List ℕ)) (next : ReadingState) → content_line (outside ver whole names) (head ∷ args) ≡ Ok next → OutsideTook whole names (head ∷ args) next ⊎ (unknown_line (outside ver whole names) head args ≡ Ok next)
  unfolding content_line worded_line opened_thread said_line begun_block declared_line or_at end_at
  outside_first whole names head args next e = by (word_in ver (word_of head)) refl e where
    by : (w : Option Word) → word_in ver (word_of head) ≡ w → worded_line (outside ver whole names) head w args ≡ Ok next → OutsideTook whole names (head ∷ args) next ⊎ (unknown_line (outside ver whole names) head args ≡ Ok next)
    by None h e = inr e
    by (Some word.Thread) h e =
        let last = λ (all : Unit {0}). given (inside ver whole names [] 0 nowhere) in
        let w = bind_ok (wants whole StrayWord) (λ (here : Unit {0}). counted 0 args >>= last) next e in
        let a = bind_ok (counted 0 args) last next w.2 in
        inl (inl (wants_ok whole StrayWord w.0 w.1, lone head (codes "thread") args (thread_word ver head h) (none_counted args a.0 a.1), ok_is _ _ a.2))
    by (Some word.Atomic) h e = absurd cc
    by (Some word.Or) h e = absurd cc
    by (Some word.End) h e = absurd cc
    by (Some (word.Declare k)) h e =
        let a = bind_ok (declare names k args) (λ entry. given (outside ver whole (names ++ entry ∷ []))) next e in
        let known = kind_known ver (word_of head) k h in
        inl (inr (a.0, ap (λ w. declared_by names w args) (known_is ver (word_of head) (word.Declare k) h) ∙ a.1, ok_is _ _ a.2, ap (has_kind ver) (declare_is names k args a.0 a.1).1 ∙ known))
    by (Some (word.Say v)) h e = absurd cc

  pub outside_took : (whole : Bool) (names : Names) (head : List ℕ) (args : List (List ℕ)) (next : ReadingState) → can_limit (outside ver whole names) ≡ false → content_line (outside ver whole names) (head ∷ args) ≡ Ok next → OutsideTook whole names (head ∷ args) next
  outside_took whole names head args next settled e =
      elim (outside_first whole names head args next e) as (λ _. OutsideTook whole names (head ∷ args) next) [
        | inl p ↦ p
        | inr p ↦ absurd (no_limit (outside ver whole names) next head args settled p)
      ]

  record OutsideRead (whole : Bool) (names : Names) (ls : List Line) (t : ReadingState) : Type 0 where
    declaring : List Line
    threading : List Line
    all : Names
    later : List (List Command)
    parts : ls ≡ declaring ++ threading
    declares : Declare ver names declaring all
    follow : Threads all 0 threading later
    ends : script_at t ≡ record { limit = limit_of ver; objects = all; threads = later }
    alone : whole ≡ false → (threading ≡ []) × (outside ver whole all ≡ t)

  outside_thread : (whole : Bool) (names : Names) (line : Line) (ls : List Line) (t : ReadingState) → whole ≡ true → line ≡ spelled_thread → ThreadRead whole names [] 0 [] ls t → OutsideRead whole names (line ∷ ls) t
  outside_thread whole names line ls t is_whole e r = record {
    declaring = [];
    threading = spelled_thread ∷ (r.saying ++ r.more);
    all = names;
    later = r.commands ∷ r.later;
    parts = ap (λ (x : Line). x ∷ ls) e ∙ ap (λ (rest : List Line). spelled_thread ∷ rest) r.parts;
    declares = Declare.none;
    follow = Threads.one (omega arith) r.said r.few r.follow;
    ends = r.ends;
    alone = λ part. absurd (never whole names [] 0 [] t is_whole part);
  }

  outside_declared : (whole : Bool) (names : Names) (line : Line) (entry : List ℕ × Object) (ls : List Line) (t : ReadingState) → declared names line ≡ Ok entry → has_kind ver (object_kind entry.1) ≡ true → OutsideRead whole (names ++ entry ∷ []) ls t → OutsideRead whole names (line ∷ ls) t
  outside_declared whole names line entry ls t e known r = record {
    declaring = line ∷ r.declaring;
    threading = r.threading;
    all = r.all;
    later = r.later;
    parts = ap (λ (rest : List Line). line ∷ rest) r.parts;
    declares = Declare.one line entry known (declared_declares names line entry e) r.declares;
    follow = r.follow;
    ends = r.ends;
    alone = r.alone;
  }

  outside_last : (whole : Bool) (names : Names) (t : ReadingState) → outside ver whole names ≡ t → OutsideRead whole names [] t
  outside_last whole names t e = record { declaring = []; threading = []; all = names; later = []; parts = refl; declares = Declare.none; follow = Threads.none; ends = ap script_at (sym e); alone = λ part. (refl, e) }

  outside_read : (ls : List Line) (whole : Bool) (names : Names) (t : ReadingState) → can_limit (outside ver whole names) ≡ false → in_block t.place.open_blocks ≡ false → all_contents (outside ver whole names) ls ≡ Ok t → OutsideRead whole names ls t
  unfolding content_line
  outside_read [] whole names t settled shut e = outside_last whole names t (ok_is _ _ e)
  outside_read ([] ∷ ls) whole names t settled shut e = absurd cc
  outside_read ((head ∷ args) ∷ ls) whole names t settled shut e =
      let a = bind_ok (content_line (outside ver whole names) (head ∷ args)) (λ next. all_contents next ls) t e in
      elim (outside_took whole names head args a.0 settled a.1) as (λ _. OutsideRead whole names ((head ∷ args) ∷ ls) t) [
        | inl p ↦ outside_thread whole names (head ∷ args) ls t p.0 p.1 (place_read ls whole names [] 0 [] [] 0 t (omega arith) shut (subst (λ (s : ReadingState). all_contents s ls ≡ Ok t) (sym p.2) a.2))
        | inr p ↦ outside_declared whole names (head ∷ args) p.0 ls t p.1 p.3 (outside_read ls whole (names ++ p.0 ∷ []) t (ap (λ (x : Bool). x && is_new ver) (more_named names p.0)) shut (subst (λ (s : ReadingState). all_contents s ls ≡ Ok t) (sym p.2) a.2))
      ]

-- ---- the header

-- a line of these two words
two : (ws : Line) (a b : List ℕ) → length ws ≡ 2 → bytes_eq (word_at ws 0) a ≡ true → bytes_eq (word_at ws 1) b ≡ true → ws ≡ a ∷ b ∷ []
two [] a b n p q = absurd (omega (arith, n))
two (x ∷ []) a b n p q = absurd (omega (arith, n))
two (x ∷ y ∷ []) a b n p q = let h : x ≡ a = (bytes_eq-Decides x a).0 p in let k : y ≡ b = (bytes_eq-Decides y b).0 q in cc
two (x ∷ y ∷ z ∷ ws) a b n p q = absurd (omega (arith, n))

-- the header was read
pub record HeaderRead (s t : ReadingState) (ws : Line) : Type 0 where
  pub ver : Version
  pub said : version_of (word_at ws 1) ≡ Some ver
  pub words : ((ws ≡ old_header) × (ver ≡ version.Old)) ⊎ ((ws ≡ header) × (ver ≡ version.New))
  pub is : record s { begun = true; version = ver } ≡ t

said_version : (w : List ℕ) (v : Version) → version_of w ≡ Some v → ((w ≡ codes "1") × (v ≡ version.Old)) ⊎ ((w ≡ codes "2") × (v ≡ version.New))
said_version w v e = by (bytes_eq w (codes "1")) (bytes_eq w (codes "2")) refl refl e where
  by : (a b : Bool) → bytes_eq w (codes "1") ≡ a → bytes_eq w (codes "2") ≡ b → cond a (Some version.Old) (cond b (Some version.New) None) ≡ Some v → ((w ≡ codes "1") × (v ≡ version.Old)) ⊎ ((w ≡ codes "2") × (v ≡ version.New))
  by true b p q e = inl ((bytes_eq-Decides w (codes "1")).0 p, cc)
  by false true p q e = inr ((bytes_eq-Decides w (codes "2")).0 q, cc)
  by false false p q e = absurd cc

two_words : (ws : Line) (a b : List ℕ) → length ws ≡ 2 → bytes_eq (word_at ws 0) a ≡ true → word_at ws 1 ≡ b → ws ≡ a ∷ b ∷ []
two_words [] a b n p q = absurd (omega (arith, n))
two_words (x ∷ []) a b n p q = absurd (omega (arith, n))
two_words (x ∷ y ∷ []) a b n p q = let h : x ≡ a = (bytes_eq-Decides x a).0 p in cc
two_words (x ∷ y ∷ z ∷ ws) a b n p q = absurd (omega (arith, n))

found_is : (o : Option Version) (v : Version) → found o Header ≡ Ok v → o ≡ Some v
found_is None v e = absurd cc
found_is (Some x) v e = cc

pub header_read : (s t : ReadingState) (ws : Line) → header_line s ws ≡ Ok t → HeaderRead s t ws
unfolding header_line
header_read s t ws e =
    let last = λ (v : Version). given (record s { begun = true; version = v }) in
    let second = λ (x : Unit {0}). found (version_of (word_at ws 1)) Header >>= last in
    let front = λ (x : Unit {0}). wants (bytes_eq (word_at ws 0) (codes "kcas")) Header >>= second in
    let a = bind_ok (wants (eqb (length ws) 2) Header) front t e in
    let b = bind_ok (wants (bytes_eq (word_at ws 0) (codes "kcas")) Header) second t a.2 in
    let d = bind_ok (found (version_of (word_at ws 1)) Header) last t b.2 in
    let said = found_is (version_of (word_at ws 1)) d.0 d.1 in
    let long = eqb-true _ _ (wants_ok _ Header a.0 a.1) in
    let kcas = wants_ok (bytes_eq (word_at ws 0) (codes "kcas")) Header b.0 b.1 in
    record {
      ver = d.0;
      said = said;
      words = elim (said_version (word_at ws 1) d.0 said) as (λ _. ((ws ≡ old_header) × (d.0 ≡ version.Old)) ⊎ ((ws ≡ header) × (d.0 ≡ version.New))) [
        | inl p ↦ inl (two_words ws (codes "kcas") (codes "1") long kcas p.0, p.1)
        | inr p ↦ inr (two_words ws (codes "kcas") (codes "2") long kcas p.0, p.1)
      ];
      is = ok_is _ _ d.2;
    }

-- lines that were read from the beginning
pub record OpeningRead (whole : Bool) (cs : List Line) (t : ReadingState) : Type 0 where
  pub heading : List Line
  pub version : Version
  pub begins : Begins heading version
  pub declaring : List Line
  pub threading : List Line
  pub all : Names
  pub later : List (List Command)
  pub parts : cs ≡ heading ++ (declaring ++ threading)
  pub declares : Declare version [] declaring all
  pub follow : Threads all 0 threading later
  pub ends : script_at t ≡ record { limit = limit_of version; objects = all; threads = later }
  pub alone : whole ≡ false → (threading ≡ []) × (outside version whole all ≡ t)

-- behind these first lines
begun_read : (whole : Bool) (heading cs ls : List Line) (ver : Version) (t : ReadingState) → Begins heading ver → cs ≡ heading ++ ls → OutsideRead ver whole [] ls t → OpeningRead whole cs t
begun_read whole heading cs ls ver t begins e r = record {
  heading = heading;
  version = ver;
  begins = begins;
  declaring = r.declaring;
  threading = r.threading;
  all = r.all;
  later = r.later;
  parts = e ∙ ap (λ (rest : List Line). heading ++ rest) r.parts;
  declares = r.declares;
  follow = r.follow;
  ends = r.ends;
  alone = r.alone;
}

one_word : (args : List (List ℕ)) → length args ≡ 1 → args ≡ word_at args 0 ∷ []
one_word [] n = absurd (omega (arith, n))
one_word (w ∷ []) n = refl
one_word (w ∷ x ∷ args) n = absurd (omega (arith, n))

-- behind a header of version 2
new_read : (whole : Bool) (cs ls : List Line) (t : ReadingState) → cs ≡ header ∷ ls → in_block t.place.open_blocks ≡ false → all_contents (outside version.New whole []) ls ≡ Ok t → OpeningRead whole cs t
unfolding content_line
new_read whole cs [] t c shut e = begun_read whole (header ∷ []) cs [] version.New t Begins.new c (outside_last version.New whole [] t (ok_is _ _ e))
new_read whole cs ([] ∷ ls) t c shut e = absurd cc
new_read whole cs ((head ∷ args) ∷ ls) t c shut e =
    let a = bind_ok (content_line (outside version.New whole []) (head ∷ args)) (λ next. all_contents next ls) t e in
    elim (outside_first version.New whole [] head args a.0 a.1) as (λ _. OpeningRead whole cs t) [
      | inl p ↦ begun_read whole (header ∷ []) cs ((head ∷ args) ∷ ls) version.New t Begins.new c (taken a.0 p a.2)
      | inr p ↦ limited a.0 p a.2
    ]
  where
    taken : (next : ReadingState) → OutsideTook version.New whole [] (head ∷ args) next → all_contents next ls ≡ Ok t → OutsideRead version.New whole [] ((head ∷ args) ∷ ls) t
    taken next (inl p) f = outside_thread version.New whole [] (head ∷ args) ls t p.0 p.1 (place_read version.New ls whole [] [] 0 [] [] 0 t (omega arith) shut (subst (λ (s : ReadingState). all_contents s ls ≡ Ok t) (sym p.2) f))
    taken next (inr p) f = outside_declared version.New whole [] (head ∷ args) p.0 ls t p.1 p.3 (outside_read version.New ls whole (p.0 ∷ []) t refl shut (subst (λ (s : ReadingState). all_contents s ls ≡ Ok t) (sym p.2) f))

    limited : (next : ReadingState) → unknown_line (outside version.New whole []) head args ≡ Ok next → all_contents next ls ≡ Ok t → OpeningRead whole cs t
    limited next p f =
        let is = unknown_comes (outside version.New whole []) next head args p in
        let w = unknown_is (outside version.New whole []) next head args p in
        let line : head ∷ args ≡ spelled_limit (word_at args 0) = ap (λ (x : List ℕ). x ∷ args) w.0 ∙ ap (λ (x : List (List ℕ)). codes "limit" ∷ x) (one_word args w.1) in
        begun_read whole (header ∷ spelled_limit (word_at args 0) ∷ []) cs ls (version.Limited (value_on 0 (word_at args 0))) t (Begins.limited (word_at args 0) w.2) (c ∙ ap (λ (x : Line). header ∷ x ∷ ls) line)
        (outside_read (version.Limited (value_on 0 (word_at args 0))) ls whole [] t refl shut (subst (λ (s : ReadingState). all_contents s ls ≡ Ok t) is f))

opening_read : (whole : Bool) (cs : List Line) (t : ReadingState) → all_contents (opening_state whole) cs ≡ Ok t → t.begun ≡ true → in_block t.place.open_blocks ≡ false → OpeningRead whole cs t
unfolding content_line
opening_read whole [] t e begun shut = absurd (never_begun (ap (λ (x : ReadingState). x.begun) (ok_is _ _ e) ∙ begun)) where
  never_begun : false ≡ true → ⊥
  never_begun h = cc
opening_read whole ([] ∷ cs) t e begun shut = absurd cc
opening_read whole ((head ∷ args) ∷ cs) t e begun shut =
    let a = bind_ok (content_line (opening_state whole) (head ∷ args)) (λ next. all_contents next cs) t e in
    let h = header_read (opening_state whole) a.0 (head ∷ args) a.1 in
    elim h.words as (λ _. OpeningRead whole ((head ∷ args) ∷ cs) t) [
      | inl p ↦ begun_read whole (old_header ∷ []) ((head ∷ args) ∷ cs) cs version.Old t Begins.old (ap (λ (x : Line). x ∷ cs) p.0) (outside_read version.Old cs whole [] t refl shut (subst (λ (s : ReadingState). all_contents s cs ≡ Ok t) (sym h.is ∙ ap (λ (v : Version). outside v whole []) p.1) a.2))
      | inr p ↦ new_read whole ((head ∷ args) ∷ cs) cs t (ap (λ (x : Line). x ∷ cs) p.0) shut (subst (λ (s : ReadingState). all_contents s cs ≡ Ok t) (sym h.is ∙ ap (λ (v : Version). outside v whole []) p.1) a.2)
    ]

-- a whole script or a setup was read
pub opening_part : (whole : Bool) (bytes : List ℕ) (t : ReadingState) → part_read (opening_state whole) bytes ≡ Ok t → OpeningRead whole (contents bytes) t
opening_part whole bytes t e =
    let r = part_is (opening_state whole) bytes t e in
    opening_read whole (contents bytes) t (sym (skipping (lines bytes) (opening_state whole)) ∙ r.all) r.begun r.shut

-- what is read is spelled
pub spelled_spells : (bytes : List ℕ) (s : Script) → spelled bytes ≡ Ok s → Spells bytes s
unfolding spelled
spelled_spells bytes s e =
    let a = then_made (part_read (opening_state true) bytes) script_at s e in
    let r = opening_part true bytes a.0 a.1 in
    let same : record { limit = limit_of r.version; objects = r.all; threads = r.later } ≡ s = sym r.ends ∙ a.2 in
    subst (Spells bytes) same (record { heading = r.heading; version = r.version; begins = r.begins; limit = refl; declaring = r.declaring; threading = r.threading; lines = r.parts; declares = r.declares; threads = r.follow })
