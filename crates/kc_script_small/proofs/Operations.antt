-- What bytes spell names small numbers alone, so its commands come to such.
use Rattle.std.proofs.Common.{◌≡◌, ℕ, zero, suc, ◌+◌, ◌≤◌, List, [], ◌∷◌, ◌++◌, Some, length, sym, subst, arith, slice_index_or}
use Rattle.std.specs.Prelude.{slice_get}
use Rattle.std.proofs.lemmas.Nat.{pow_below}
use Rattle.kc_history.proofs.Choice.{some_is}
use Rattle.kc_loc.specs.Meaning.{loc_program}
use Rattle.kc_loc.specs.declared.operation.LocOp.TheVariants as loc
use Rattle.kc_model.specs.declared.footprint.TheConstants.{MOST}
use Rattle.kc_script.proofs.Spelled.{block_small, operations_more}
use Rattle.kc_script.specs.Spells.{Block, Line, Say, Spells, Threads}
use Rattle.kc_script_bundle.proofs.Flags.{flag_within}
use Rattle.kc_script_bundle.specs.Live.{flag_bit}
use Rattle.kc_script_bundle.specs.Meaning.{alone_program, cancel_op, command_meaning, end_meaning, op_meaning, op_program, thread_meaning}
use Rattle.kc_script_bundle.specs.Script.{Names, Script}
use Rattle.kc_script_bundle.specs.declared.operation.Command.{Command}
use Rattle.kc_script_bundle.specs.declared.operation.Command.TheVariants as command
use Rattle.kc_script_bundle.specs.declared.operation.Op.{Op}
use Rattle.kc_script_bundle.specs.declared.operation.Op.TheVariants as op
use Rattle.kc_script_runs.specs.Run.{meaning_at}
use Rattle.kc_script_runs.specs.Threads.{asked, meanings}
use Rattle.kc_script_small.proofs.Caches.{cache_small}
use Rattle.kc_script_small.proofs.Meanings.{MeansTo, OpSmall, alone_means, each_append, first_means, limited_means, means_more, program_means, term_means}
use Rattle.kc_script_small.proofs.Programs.{NumbersFit, acc_small, loc_small, mvar_small, promise_small, queue_small, stack_small}
use Rattle.kc_script_small.proofs.Tables.{grow_small, hash_small}
use Rattle.kc_script_verbs.specs.Canonical.{IsByThread, Part, Respells, Says, words_of}
use Rattle.kc_term.specs.Fit.{Each}
use Rattle.kc_term.specs.Meaning.{term_meaning}
use Rattle.kc_term.specs.Tree.{Tree, all_operations, op as one, operations, trees}
use Rattle.kc_xt.specs.Meaning.{Meaning, limited}
use Rattle.kc_xt.specs.Program.{meaning, replies}

-- ---- an operation

-- the numbers that a line spells are small
pub numbers_fit : (names : Names) (parts : List Part) (line : Line) → Respells names parts line → NumbersFit parts
numbers_fit names [] line h = tt
numbers_fit names (part ∷ parts) [] h = absurd h
numbers_fit names (Part.text w ∷ parts) (word ∷ line) h = numbers_fit names parts line h.1
numbers_fit names (Part.object_name o ∷ parts) (word ∷ line) h = numbers_fit names parts line h.1
numbers_fit names (Part.place_name x ∷ parts) (word ∷ line) h = numbers_fit names parts line h.1
numbers_fit names (Part.numeral n ∷ parts) (word ∷ line) h = (let most = h.0.2 in omega (arith, most), numbers_fit names parts line h.1)

small_op : (o : Op) → NumbersFit (words_of o) → (thread : ℕ) → IsByThread thread o → OpSmall o
small_op (op.Loc o) n thread by = loc_small o replies n (λ a h. h)
small_op (op.Stack o) n thread by = stack_small o.stack o.act replies n (λ a h. h)
small_op (op.Queue o) n thread by = queue_small o.queue o.act replies n (λ a h. h)
small_op (op.Mvar o) n thread by = mvar_small o.mvar o.act replies n (λ a h. h)
small_op (op.Promise o) n thread by = promise_small o.promise o.act replies n (λ a h. h)
small_op (op.Acc o) n thread by = acc_small o.acc o.act replies n (λ a h. h)
small_op (op.Hash o) n thread by = hash_small o.hash o.act replies n (λ a h. h)
small_op (op.Grow o) n thread by = grow_small o.grow o.act replies n (λ a h. h)
small_op (op.Cache o) n thread by = cache_small o.cache replies (λ a h. h) o.act n
small_op (op.Cancel c) n thread by = loc_small (cancel_op c) replies (pow_below (flag_bit c.thread) 32 (flag_within c.thread by.1), tt) (λ a h. h)

says_small : (thread : ℕ) (names : Names) (line : Line) (o : Op) → Says thread names line o → OpSmall o
says_small thread names line o h = small_op o (numbers_fit names (words_of o) line h.0) thread h.1

-- ---- a command

-- its operations are small, and a block has at most 16
abbrev pub CommandSmall : Command → Type 0
CommandSmall (command.One o) = OpSmall o
CommandSmall (command.Block t) = (length (operations t) ≤ 16) × Each OpSmall (operations t)

command_means : (c : Command) → CommandSmall c → MeansTo 16 (command_meaning c)
command_means (command.One o) h = means_more 1 16 (op_meaning o) (omega arith) (program_means (op_program o replies) h)
command_means (command.Block t) h = means_more (length (operations t)) 16 (term_meaning op_meaning t) h.0 (term_means t h.1)

asked_means : (limit thread : ℕ) (c : Command) → CommandSmall c → MeansTo 16 (asked limit thread c)
asked_means limit thread c h = limited_means 16 limit (thread_meaning 0 thread c) (first_means 16 (command_meaning c) (meaning (alone_program 0 thread)) (command_means c h) (means_more 1 16 (meaning (alone_program 0 thread)) (omega arith) (alone_means 0 thread)))

end_means : MeansTo 16 (limited MOST (end_meaning 0))
end_means = limited_means 16 MOST (end_meaning 0) (means_more 1 16 (end_meaning 0) (omega arith) (program_means (loc_program (loc.Decr (record { 0 = 0 })) replies) (loc_small (loc.Decr (record { 0 = 0 })) replies tt (λ a h. h))))

meanings_mean : (limit thread : ℕ) (cs : List Command) → Each CommandSmall cs → (k : ℕ) (m : Meaning) → slice_get (meanings limit thread cs) k ≡ Some m → MeansTo 16 m
meanings_mean limit thread [] h zero m e = subst (MeansTo 16) (some_is (limited MOST (end_meaning 0)) m e) end_means
meanings_mean limit thread [] h (suc k) m e = absurd (cc)
meanings_mean limit thread (c ∷ cs) h zero m e = subst (MeansTo 16) (some_is (asked limit thread c) m e) (asked_means limit thread c h.0)
meanings_mean limit thread (c ∷ cs) h (suc k) m e = meanings_mean limit thread cs h.1 k m e

-- what threads of such commands commit comes to small numbers
pub meaning_means : (limit : ℕ) (threads : List (List Command)) → Each (Each CommandSmall) threads → (thread index : ℕ) (m : Meaning) → meaning_at limit threads thread index ≡ Some m → MeansTo 16 m
meaning_means limit threads h thread index m e = meanings_mean limit (thread + 1) (slice_index_or threads thread []) (thread_at threads h thread) index m e
  where
    thread_at : (threads : List (List Command)) → Each (Each CommandSmall) threads → (t : ℕ) → Each CommandSmall (slice_index_or threads t [])
    thread_at [] h t = tt
    thread_at (cs ∷ threads) h zero = h.0
    thread_at (cs ∷ threads) h (suc t) = thread_at threads h.1 t

-- ---- what lines say

module _ (thread : ℕ) (names : Names) where
  block_ops : (level : ℕ) (parts : List (Tree Op)) (count : ℕ) (lines : List Line) (tree : Tree Op) (total : ℕ) → Block thread names level parts count lines tree total → Each OpSmall (all_operations (trees parts)) → Each OpSmall (operations tree)
  block_ops level parts count _ _ _ Block.ends h = h
  block_ops level parts count _ tree total (Block.one {lines = lines} line o e lt rest) h =
      block_ops level (parts ++ one o ∷ []) (count + 1) lines tree total rest (subst (Each OpSmall) (sym (operations_more parts (one o))) (each_append OpSmall (all_operations (trees parts)) (o ∷ []) h (says_small thread names line o e, tt)))
  block_ops level parts count _ _ total (Block.other {lines = lines} {tree = tree} shallow rest) h =
      each_append OpSmall (all_operations (trees parts)) (operations tree) h (block_ops (level + 1) [] count lines tree total rest tt)
  block_ops level parts count _ tree total (Block.inner {within = within} {inside = inside} {lines = lines} {block = block} shallow lt begun rest) h =
      block_ops level (parts ++ block ∷ []) within lines tree total rest (subst (Each OpSmall) (sym (operations_more parts block)) (each_append OpSmall (all_operations (trees parts)) (operations block) h (block_ops (level + 1) [] (count + 1) inside block within begun tt)))

  said_small : (lines : List Line) (cs : List Command) → Say thread names lines cs → Each CommandSmall cs
  said_small lines cs Say.none = tt
  said_small _ _ (Say.one {lines = lines} {commands = cs} line o e rest) = (says_small thread names line o e, said_small lines cs rest)
  said_small _ _ (Say.block {inside = inside} {lines = lines} {commands = cs} {tree = tree} {total = total} b rest) =
      (((block_small thread names 0 0 inside tree total (omega arith) (omega arith) b).0, block_ops 0 [] 0 inside tree total b tt), said_small lines cs rest)

threads_small : (names : Names) (thread : ℕ) (lines : List Line) (threads : List (List Command)) → Threads names thread lines threads → Each (Each CommandSmall) threads
threads_small names thread lines threads Threads.none = tt
threads_small names thread _ _ (Threads.one {lines = lines} {more = more} {commands = cs} {threads = threads} lt said few rest) = (said_small thread names lines cs said, threads_small names (thread + 1) more threads rest)

-- each command that bytes spell names small numbers alone
pub spelled_small : {bytes : List ℕ} {s : Script} → Spells bytes s → Each (Each CommandSmall) s.threads
spelled_small {bytes} {s} p = threads_small s.objects 0 p.threading s.threads p.threads
