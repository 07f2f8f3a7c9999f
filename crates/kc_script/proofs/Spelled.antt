-- What holds of a script that bytes spell.
use Rattle.std.proofs.Common.{◌≡◌, ℕ, zero, suc, ◌+◌, ◌≤◌, ◌<◌, max, List, [], ◌∷◌, ◌++◌, length, get_or, refl, sym, append_assoc, ap, subst, ◌∙◌, arith, length-append}
use Rattle.kc_script.proofs.Objects.{next_from_more, lies_more, sized_more}
use Rattle.kc_script.proofs.Trees.{IsSmall}
use Rattle.kc_script.specs.Spells.{Line, Declare, Block, Say, Threads, Spells}
use Rattle.kc_script.specs.Threads.{AreThreads}
use Rattle.kc_script.specs.declared.reader.Version.{Version}
use Rattle.kc_script_bundle.specs.On.{AllOn, CommandIsOn, CommandsAreOn}
use Rattle.kc_script_bundle.specs.Script.{Names, Script, next_from, LieFrom, LiesInOrder, AreSized}
use Rattle.kc_script_bundle.specs.declared.operation.Command.{Command}
use Rattle.kc_script_bundle.specs.declared.operation.Op.{Op}
use Rattle.kc_script_verbs.proofs.Rows.{says_on}
use Rattle.kc_term.specs.Tree.{Tree, op, trees, operations, all_operations, nesting, greatest_nesting}

-- ---- objects

-- objects that lines declare lie behind those before them
declares_lie : {version : Version} (names all : Names) (lines : List Line) → Declare version names lines all → LieFrom 1 names → next_from 1 names ≤ 65536 → AreSized names → LieFrom 1 all × (next_from 1 all ≤ 65536) × AreSized all
declares_lie names all lines Declare.none h le sized = (h, le, sized)
declares_lie names all _ (Declare.one {lines = lines} line entry known e rest) h le sized =
    let p = e.3 in
    declares_lie (names ++ entry ∷ []) all lines rest (lies_more 1 names entry h p.0) (omega (arith, next_from_more 1 names entry, p.1)) (sized_more names entry sized p.2)

-- no objects lie in order
none_lie : (LieFrom 1 []) × (next_from 1 [] ≤ 65536)
unfolding LieFrom next_from
none_lie = (tt, omega arith)

-- the objects of a script that is spelled lie in order
pub spelled_lies : {bytes : List ℕ} {s : Script} → Spells bytes s → LiesInOrder s
spelled_lies {bytes} {s} p =
    let h = declares_lie [] s.objects p.declaring p.declares none_lie.0 none_lie.1 tt in
    record { lie = h.0; within = h.1 }

-- and have their sizes
pub spelled_sized : {bytes : List ℕ} {s : Script} → Spells bytes s → AreSized s.objects
spelled_sized {bytes} {s} p = (declares_lie [] s.objects p.declaring p.declares none_lie.0 none_lie.1 tt).2

-- ---- blocks

all_on_both : (names : Names) (os more : List Op) → AllOn names os → AllOn names more → AllOn names (os ++ more)
all_on_both names [] more h k = k
all_on_both names (o ∷ os) more h k = (h.0, all_on_both names os more h.1 k)

-- the operations of parts and one more
pub operations_more : (parts : List (Tree Op)) (t : Tree Op) → all_operations (trees (parts ++ t ∷ [])) ≡ all_operations (trees parts) ++ operations t
operations_more [] t = append_one (operations t) where
  append_one : (os : List Op) → os ++ [] ≡ os
  append_one [] = refl
  append_one (o ∷ os) = ap (λ rest. o ∷ rest) (append_one os)
operations_more (p ∷ parts) t = ap (λ rest. operations p ++ rest) (operations_more parts t) ∙ sym (append_assoc (operations p) (all_operations (trees parts)) (operations t))

-- how deep parts and one more are nested
pub nesting_more : (parts : List (Tree Op)) (t : Tree Op) → greatest_nesting (trees (parts ++ t ∷ [])) ≡ max (greatest_nesting (trees parts)) (nesting t)
nesting_more [] t = omega arith
nesting_more (p ∷ parts) t = omega (arith, nesting_more parts t)

module _ (thread : ℕ) (names : Names) where
  -- operations of a block are on objects
  block_on : (level : ℕ) (parts : List (Tree Op)) (count : ℕ) (lines : List Line) (tree : Tree Op) (total : ℕ) → Block thread names level parts count lines tree total → AllOn names (all_operations (trees parts)) → AllOn names (operations tree)
  block_on level parts count _ _ _ Block.ends h = h
  block_on level parts count _ tree total (Block.one {lines = lines} line o e lt rest) h =
      block_on level (parts ++ op o ∷ []) (count + 1) lines tree total rest (subst (AllOn names) (sym (operations_more parts (op o))) (all_on_both names (all_operations (trees parts)) (o ∷ []) h (says_on thread names line o e, tt)))
  block_on level parts count _ _ total (Block.other {lines = lines} {tree = tree} shallow rest) h =
      all_on_both names (all_operations (trees parts)) (operations tree) h (block_on (level + 1) [] count lines tree total rest tt)
  block_on level parts count _ tree total (Block.inner {within = within} {inside = inside} {lines = lines} {block = block} shallow lt begun rest) h =
      block_on level (parts ++ block ∷ []) within lines tree total rest (subst (AllOn names) (sym (operations_more parts block)) (all_on_both names (all_operations (trees parts)) (operations block) h (block_on (level + 1) [] (count + 1) inside block within begun tt)))

  -- so many operations are counted
  block_counted : (level : ℕ) (parts : List (Tree Op)) (count : ℕ) (lines : List Line) (tree : Tree Op) (total : ℕ) → Block thread names level parts count lines tree total → count ≤ 16 → (length (operations tree) + count ≤ length (all_operations (trees parts)) + total) × (total ≤ 16)
  block_counted level parts count _ _ _ Block.ends le = (omega arith, le)
  block_counted level parts count _ tree total (Block.one {lines = lines} line o e lt rest) le =
      let h = block_counted level (parts ++ op o ∷ []) (count + 1) lines tree total rest (omega (arith, lt)) in
      let n = ap (λ os. length os) (operations_more parts (op o)) ∙ length-append (all_operations (trees parts)) (o ∷ []) in
      (omega (arith, h.0, n), h.1)
  block_counted level parts count _ _ total (Block.other {lines = lines} {tree = tree} shallow rest) le =
      let h = block_counted (level + 1) [] count lines tree total rest le in
      (omega (arith, h.0, length-append (all_operations (trees parts)) (operations tree)), h.1)
  block_counted level parts count _ tree total (Block.inner {within = within} {inside = inside} {lines = lines} {block = block} shallow lt begun rest) le =
      let h = block_counted (level + 1) [] (count + 1) inside block within begun (omega (arith, lt)) in
      let k = block_counted level (parts ++ block ∷ []) within lines tree total rest h.1 in
      let n = ap (λ os. length os) (operations_more parts block) ∙ length-append (all_operations (trees parts)) (operations block) in
      (omega (arith, h.0, k.0, n), k.1)

  -- it is nested no deeper than its level lets it be
  block_shallow : (level : ℕ) (parts : List (Tree Op)) (count : ℕ) (lines : List Line) (tree : Tree Op) (total : ℕ) → Block thread names level parts count lines tree total → level ≤ 8 → greatest_nesting (trees parts) + level ≤ 8 → (level < 8 → greatest_nesting (trees parts) + level ≤ 7) → nesting tree + level ≤ 8
  block_shallow level parts count _ _ _ Block.ends le h k = h
  block_shallow level parts count _ tree total (Block.one {lines = lines} line o e lt rest) le h k =
      let n = nesting_more parts (op o) in
      block_shallow level (parts ++ op o ∷ []) (count + 1) lines tree total rest le (omega (arith, h, n, le)) (λ below. let g = k below in omega (arith, g, n, below))
  block_shallow level parts count _ _ total (Block.other {lines = lines} {tree = tree} shallow rest) le h k =
      let r = block_shallow (level + 1) [] count lines tree total rest (omega (arith, shallow)) (omega (arith, shallow)) (λ below. omega (arith, below)) in
      omega (arith, r, k shallow)
  block_shallow level parts count _ tree total (Block.inner {within = within} {inside = inside} {lines = lines} {block = block} shallow lt begun rest) le h k =
      let r = block_shallow (level + 1) [] (count + 1) inside block within begun (omega (arith, shallow)) (omega (arith, shallow)) (λ below. omega (arith, below)) in
      let n = nesting_more parts block in
      block_shallow level (parts ++ block ∷ []) within lines tree total rest le (omega (arith, h, n, r)) (λ below. let g = k below in omega (arith, g, n, r))

  -- a block is within the limits
  pub block_small : (level : ℕ) (count : ℕ) (lines : List Line) (tree : Tree Op) (total : ℕ) → level ≤ 8 → count ≤ 16 → Block thread names level [] count lines tree total → IsSmall tree
  block_small level count lines tree total le few b =
      let h = block_counted level [] count lines tree total b few in
      let k = block_shallow level [] count lines tree total b le (omega (arith, le)) (λ below. omega (arith, below)) in
      (omega (arith, h.0, h.1), omega (arith, k))

  -- commands that lines say are on objects
  commands_on : (lines : List Line) (cs : List Command) → Say thread names lines cs → CommandsAreOn names cs
  commands_on lines cs Say.none = tt
  commands_on _ _ (Say.one {lines = lines} {commands = cs} line o e rest) = (says_on thread names line o e, commands_on lines cs rest)
  commands_on _ _ (Say.block {inside = inside} {lines = lines} {commands = cs} {tree = tree} {total = total} b rest) =
      (((block_small 0 0 inside tree total (omega arith) (omega arith) b).0, block_on 0 [] 0 inside tree total b tt), commands_on lines cs rest)

-- ---- threads

threads_are : (names : Names) (thread : ℕ) (lines : List Line) (threads : List (List Command)) → Threads names thread lines threads → AreThreads names threads
threads_are names thread lines threads Threads.none = tt
threads_are names thread _ _ (Threads.one {lines = lines} {more = more} {commands = cs} {threads = threads} lt said few rest) = (few, commands_on thread names lines cs said, threads_are names (thread + 1) more threads rest)

-- each thread of a script that is spelled has at most 4,096 commands, on its objects
pub spelled_threads : {bytes : List ℕ} {s : Script} → Spells bytes s → AreThreads s.objects s.threads
spelled_threads {bytes} {s} p = threads_are s.objects 0 p.threading s.threads p.threads

threads_few : (names : Names) (thread : ℕ) (lines : List Line) (threads : List (List Command)) → Threads names thread lines threads → thread ≤ 16 → thread + length threads ≤ 16
threads_few names thread lines threads Threads.none le = omega (arith, le)
threads_few names thread _ _ (Threads.one {more = more} {threads = threads} lt said few rest) le =
    let h = threads_few names (thread + 1) more threads rest (omega (arith, lt)) in
    omega (arith, h)

-- at most 16 threads
pub spelled_threads_few : {bytes : List ℕ} {s : Script} → Spells bytes s → length s.threads ≤ 16
spelled_threads_few {bytes} {s} p = let h = threads_few s.objects 0 p.threading s.threads p.threads (omega arith) in omega (arith, h)

-- the thread at an index
pub thread_at : (names : Names) (threads : List (List Command)) (k : ℕ) → AreThreads names threads → (length (get_or threads k []) ≤ 4096) × CommandsAreOn names (get_or threads k [])
thread_at names [] k h = (omega arith, tt)
thread_at names (cs ∷ threads) zero h = (h.0, h.1)
thread_at names (cs ∷ threads) (suc k) h = thread_at names threads k h.2

-- the command at an index
pub on_at : (names : Names) (cs : List Command) (i : ℕ) (d : Command) → CommandsAreOn names cs → i < length cs → CommandIsOn names (get_or cs i d)
on_at names [] i d h lt = absurd (omega arith)
on_at names (c ∷ cs) zero d h lt = h.0
on_at names (c ∷ cs) (suc i) d h lt = on_at names cs i d h.1 (omega arith)
