-- What a storm leaves: the values behind its threads, one after another on a plain store, and what its commands add.
use Rattle.std.specs.Prelude.{ℕ, ◌+◌, ◌==◌, cond, List, [], ◌∷◌, sum_by}
use Rattle.kc_model.specs.declared.footprint.TheConstants.{MOST}
use Rattle.kc_loc.specs.declared.kinds.Fun.TheVariants as fun
use Rattle.kc_loc.specs.declared.operation.LocOp.{LocOp}
use Rattle.kc_loc.specs.declared.operation.LocOp.TheVariants as loc
use Rattle.kc_cells.specs.declared.accumulator.AccAct.{AccAct}
use Rattle.kc_cells.specs.declared.accumulator.Accumulator.{Accumulator}
use Rattle.kc_cells.specs.declared.accumulator.AccAct.TheVariants as act
use Rattle.kc_cells.specs.Accumulator.{bumped_cell}
use Rattle.kc_script_bundle.specs.declared.operation.Op.{Op}
use Rattle.kc_term.specs.Tree.{operations}
use Rattle.kc_xt.specs.Meaning.{Outcome, replied, retried, too_large, Touch, Meaning, map_after, values}
use Rattle.kc_script_bundle.specs.declared.operation.Op.TheVariants as operation
use Rattle.kc_script_bundle.specs.declared.operation.Command.{Command}
use Rattle.kc_script_bundle.specs.declared.operation.Command.TheVariants as command
use Rattle.kc_script_runs.specs.Run.{opening_store}
use Rattle.kc_script_runs.specs.Threads.{meanings}
use Rattle.kc_script_storm.specs.Storm.{storm_script}

-- ---- one thread after another

-- what was written, where there is a reply
abbrev pub written_by : Outcome → List Touch → (ℕ → ℕ) → ℕ → ℕ
written_by (replied a) touches v = map_after v touches
written_by retried touches v = v
written_by too_large touches v = v

-- what a transaction makes of the values of a plain store
abbrev pub made_by : Meaning → (ℕ → ℕ) → ℕ → ℕ
made_by m v = written_by (m MOST v []).outcome (m MOST v []).touches v

abbrev pub made_by_all : List Meaning → (ℕ → ℕ) → ℕ → ℕ
made_by_all [] v = v
made_by_all (m ∷ ms) v = made_by_all ms (made_by m v)

-- each thread to its end, before the next one begins; the first has this number
abbrev pub thread_after_thread : ℕ → List (List Command) → (ℕ → ℕ) → ℕ → ℕ
thread_after_thread thread [] v = v
thread_after_thread thread (commands ∷ threads) v = thread_after_thread (thread + 1) threads (made_by_all (meanings MOST thread commands) v)

abbrev pub storm_state : ℕ → ℕ → ℕ
storm_state n = thread_after_thread 1 (storm_script n).threads (values (opening_store (storm_script n)))

-- ---- what commands add

abbrev pub at_cell : ℕ → ℕ → ℕ → ℕ
at_cell cell v l = cond (cell == l) v 0

-- what an operation adds at a location, where it is one of those that only add and reply `ok`
abbrev loc_adds : LocOp → ℕ → ℕ
loc_adds (loc.Modify x (fun.Add v)) l = at_cell x.0 v l
loc_adds (loc.Incr x) l = at_cell x.0 1 l
loc_adds _ l = 0

abbrev acc_adds : Accumulator → AccAct → ℕ → ℕ
acc_adds a (act.Bump c v) l = at_cell (bumped_cell a c) v l
acc_adds a act.Total l = 0

abbrev pub op_adds : Op → ℕ → ℕ
op_adds (operation.Loc o) l = loc_adds o l
op_adds (operation.Acc o) l = acc_adds o.acc o.act l
op_adds _ l = 0

abbrev pub command_adds : Command → ℕ → ℕ
command_adds (command.One o) l = op_adds o l
command_adds (command.Block t) l = sum_by (λ o. op_adds o l) (operations t)

-- all that the commands of all threads add there
abbrev pub all_adds : List (List Command) → ℕ → ℕ
all_adds threads l = sum_by (λ commands. sum_by (λ c. command_adds c l) commands) threads
