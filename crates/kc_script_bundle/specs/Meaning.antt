-- What commands mean, and what a thread commits.
use Rattle.std.specs.Prelude.{ℕ, ◌==◌, ⊤, cond}
use Rattle.kc_model.specs.declared.reply.Reply.{Reply}
use Rattle.kc_model.specs.declared.reply.Reply.TheVariants as reply
use Rattle.kc_xt.specs.Meaning.{Meaning, first_meaning}
use Rattle.kc_xt.specs.Program.{Program, read, write, replies, retries, meaning}
use Rattle.kc_loc.specs.declared.kinds.Fun.TheVariants as fun
use Rattle.kc_loc.specs.declared.operation.LocOp.{LocOp}
use Rattle.kc_loc.specs.declared.operation.LocOp.TheVariants as loc
use Rattle.kc_cache.specs.Meaning.{cache_program, cache_end}
use Rattle.kc_cells.specs.Accumulator.{acc_program, acc_end}
use Rattle.kc_cells.specs.Mvar.{mvar_program, mvar_end}
use Rattle.kc_cells.specs.Promise.{promise_program, promise_end}
use Rattle.kc_grow.specs.Meaning.{grow_program, grow_end}
use Rattle.kc_hash.specs.Meaning.{hash_program, hash_end}
use Rattle.kc_loc.specs.Meaning.{loc_program, loc_meaning, loc_end, LocIsFit}
use Rattle.kc_queue.specs.Meaning.{queue_program, queue_end}
use Rattle.kc_script_bundle.specs.Live.{IsThreadNumber, live_threads, flag_of, is_flagged, cleared}
use Rattle.kc_script_bundle.specs.declared.cancel.Cancel.{Cancel}
use Rattle.kc_script_bundle.specs.declared.operation.Op.{Op}
use Rattle.kc_stack.specs.Meaning.{stack_program, stack_end}
use Rattle.kc_term.specs.Fit.{AreFit}
use Rattle.kc_term.specs.Meaning.{term_meaning, greatest_end}
use Rattle.kc_term.specs.Tree.{operations}
use Rattle.kc_script_bundle.specs.declared.operation.Op.TheVariants as op
use Rattle.kc_script_bundle.specs.declared.operation.Command.{Command}
use Rattle.kc_script_bundle.specs.declared.operation.Command.TheVariants as command

-- ---- a cancel

-- the operation on the location that it is: it sets the flag of its thread
abbrev pub cancel_op : Cancel → LocOp
cancel_op c = loc.Modify c.live (fun.Or (flag_of c.thread))

abbrev pub cancel_meaning : Cancel → Meaning
cancel_meaning c = loc_meaning (cancel_op c)

abbrev pub cancel_end : Cancel → ℕ
cancel_end c = loc_end (cancel_op c)

abbrev pub CancelIsFit : Cancel → Type 0
CancelIsFit c = LocIsFit (cancel_op c) × IsThreadNumber c.thread

-- ---- an operation

-- what it does, and what comes behind its reply
abbrev pub op_program : Op → (Reply → Program) → Program
op_program (op.Loc o) = loc_program o
op_program (op.Stack o) = stack_program o.stack o.act
op_program (op.Queue o) = queue_program o.queue o.act
op_program (op.Mvar o) = mvar_program o.mvar o.act
op_program (op.Promise o) = promise_program o.promise o.act
op_program (op.Acc o) = acc_program o.acc o.act
op_program (op.Hash o) = hash_program o.hash o.act
op_program (op.Grow o) = grow_program o.grow o.act
op_program (op.Cache o) = cache_program o.cache o.act
op_program (op.Cancel c) = loc_program (cancel_op c)

abbrev pub op_meaning : Op → Meaning
op_meaning o = meaning (op_program o replies)

-- a number above its locations
abbrev pub op_end : Op → ℕ
op_end (op.Loc o) = loc_end o
op_end (op.Stack o) = stack_end o
op_end (op.Queue o) = queue_end o
op_end (op.Mvar o) = mvar_end o
op_end (op.Promise o) = promise_end o
op_end (op.Acc o) = acc_end o
op_end (op.Hash o) = hash_end o
op_end (op.Grow o) = grow_end o
op_end (op.Cache o) = cache_end o
op_end (op.Cancel c) = cancel_end c

abbrev pub OpIsFit : Op → Type 0
OpIsFit (op.Loc o) = LocIsFit o
OpIsFit (op.Stack o) = ⊤
OpIsFit (op.Queue o) = ⊤
OpIsFit (op.Mvar o) = ⊤
OpIsFit (op.Promise o) = ⊤
OpIsFit (op.Acc o) = ⊤
OpIsFit (op.Hash o) = ⊤
OpIsFit (op.Grow o) = ⊤
OpIsFit (op.Cache o) = ⊤
OpIsFit (op.Cancel c) = CancelIsFit c

-- ---- a command

abbrev pub command_meaning : Command → Meaning
command_meaning (command.One o) = op_meaning o
command_meaning (command.Block t) = term_meaning op_meaning t

abbrev pub command_end : Command → ℕ
command_end (command.One o) = op_end o
command_end (command.Block t) = greatest_end op_end (operations t)

abbrev pub CommandIsFit : Command → Type 0
CommandIsFit (command.One o) = OpIsFit o
CommandIsFit (command.Block t) = AreFit OpIsFit op_meaning (operations t)

-- ---- a thread

-- What comes of a command of this thread that would wait. Where the thread's flag is set, the command is cancelled and the flag cleared. Else, alone among the live threads, the thread is stranded. Else it waits.
abbrev pub alone_program : ℕ → ℕ → Program
alone_program live thread = read live (λ v. cond (is_flagged thread v) (write live (cleared thread v) (replies reply.Cancelled)) (cond (live_threads v == 1) (replies reply.Stranded) retries))

-- a command of this thread, with the location of live threads: where it would wait, its puts are forgotten first
abbrev pub thread_meaning : ℕ → ℕ → Command → Meaning
thread_meaning live thread c = first_meaning (command_meaning c) (meaning (alone_program live thread))

-- a thread's end: one live thread less, and all flags as they are
abbrev pub end_meaning : ℕ → Meaning
end_meaning live = loc_meaning (loc.Decr (record { 0 = live }))
