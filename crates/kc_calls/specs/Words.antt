-- The numbers by which C says each operation.
use Rattle.std.specs.Prelude.{ℕ, Option, Some, None}
use Rattle.kc_calls.specs.declared.kinds.TheConstants.{LOCATION, STACK, QUEUE, TABLE, GROW, CACHE, MVAR, PROMISE, ACCUMULATOR}
use Rattle.kc_calls.specs.declared.object.KcasObject.{KcasObject}
use Rattle.kc_calls.specs.declared.operation.KcasOp.{KcasOp}
use Rattle.kc_calls.specs.declared.verbs.TheConstants.{NEXT, SAY, GET, SET, EXCHANGE, SWAP, CAS, ADD, INCR, DECR, UPDATE, MODIFY, CHECK, PUSH, POP, POP_WAIT, TOP, ENQ, DEQ, DEQ_WAIT, FRONT, PUT, FIND, DEL, CPUT, CPUT_WAIT, CGET, CDEL, MPUT, MTAKE, MPEEK, RESOLVE, AWAIT, RESOLVED, BUMP, TOTAL, LEN, PUSH_WAIT, ENQ_WAIT, PUT_WAIT, FUN_ADD, FUN_MAX, FUN_MIN, FUN_AND, FUN_OR, FUN_XOR, EQ, NE, LT, LE, GT, GE}
use Rattle.kc_cache.specs.declared.operation.CacheAct.{CacheAct}
use Rattle.kc_cache.specs.declared.operation.CacheAct.TheVariants as cache
use Rattle.kc_cells.specs.declared.accumulator.AccAct.{AccAct}
use Rattle.kc_cells.specs.declared.accumulator.AccAct.TheVariants as acc
use Rattle.kc_cells.specs.declared.mvar.MvarAct.{MvarAct}
use Rattle.kc_cells.specs.declared.mvar.MvarAct.TheVariants as mvar
use Rattle.kc_cells.specs.declared.promise.PromiseAct.{PromiseAct}
use Rattle.kc_cells.specs.declared.promise.PromiseAct.TheVariants as promise
use Rattle.kc_grow.specs.declared.operation.GrowAct.{GrowAct}
use Rattle.kc_grow.specs.declared.operation.GrowAct.TheVariants as grow
use Rattle.kc_hash.specs.declared.operation.HashAct.{HashAct}
use Rattle.kc_hash.specs.declared.operation.HashAct.TheVariants as table
use Rattle.kc_loc.specs.Meaning.{LocIsFit}
use Rattle.kc_loc.specs.declared.kinds.Fun.{Fun}
use Rattle.kc_loc.specs.declared.kinds.Fun.TheVariants as fun
use Rattle.kc_loc.specs.declared.kinds.Rel.{Rel}
use Rattle.kc_loc.specs.declared.kinds.Rel.TheVariants as rel
use Rattle.kc_loc.specs.declared.operation.LocOp.{LocOp}
use Rattle.kc_loc.specs.declared.operation.LocOp.TheVariants as loc
use Rattle.kc_model.specs.declared.footprint.Loc.{Loc}
use Rattle.kc_queue.specs.declared.operation.QueueAct.{QueueAct}
use Rattle.kc_queue.specs.declared.operation.QueueAct.TheVariants as queue
use Rattle.kc_script_bundle.specs.Script.{IsSized}
use Rattle.kc_script_bundle.specs.declared.object.Object.{Object}
use Rattle.kc_script_bundle.specs.declared.object.Object.TheVariants as object
use Rattle.kc_script_bundle.specs.declared.operation.Op.{Op}
use Rattle.kc_script_bundle.specs.declared.operation.Op.TheVariants as op
use Rattle.kc_stack.specs.declared.operation.StackAct.{StackAct}
use Rattle.kc_stack.specs.declared.operation.StackAct.TheVariants as stack

-- ---- structures

abbrev pub structure : (kind base capacity buckets : ℕ) → KcasObject
structure kind base capacity buckets = record { kind = kind; base = base; capacity = capacity; buckets = buckets }

abbrev pub call_loc_words : Loc → KcasObject
call_loc_words l = structure LOCATION l.0 0 0

abbrev pub object_words : Object → KcasObject
object_words (object.Loc at value) = call_loc_words at
object_words (object.Stack s) = structure STACK s.base.0 s.cap 0
object_words (object.Queue q) = structure QUEUE q.base.0 q.cap 0
object_words (object.Hash h) = structure TABLE h.base.0 h.cap h.buckets
object_words (object.Grow g) = structure GROW g.base.0 g.cap 0
object_words (object.Cache c) = structure CACHE c.base.0 c.cap c.buckets
object_words (object.Mvar x) = structure MVAR x.base.0 0 0
object_words (object.Promise p) = structure PROMISE p.base.0 0 0
object_words (object.Acc x) = structure ACCUMULATOR x.base.0 x.cells 0

-- ---- operations

abbrev pub call_words : KcasObject → (verb a b : ℕ) → KcasOp
call_words on verb a b = record { verb = verb; mark = NEXT; on = on; a = a; b = b }

abbrev pub say_words : ℕ → KcasOp
say_words n = call_words (structure 0 0 0 0) SAY n 0

abbrev pub fun_number : Fun → ℕ
fun_number (fun.Add n) = FUN_ADD
fun_number (fun.Max n) = FUN_MAX
fun_number (fun.Min n) = FUN_MIN
fun_number (fun.And n) = FUN_AND
fun_number (fun.Or n) = FUN_OR
fun_number (fun.Xor n) = FUN_XOR

-- the number that it is given beside the value
abbrev pub fun_with : Fun → ℕ
fun_with (fun.Add n) = n
fun_with (fun.Max n) = n
fun_with (fun.Min n) = n
fun_with (fun.And n) = n
fun_with (fun.Or n) = n
fun_with (fun.Xor n) = n

abbrev pub rel_number : Rel → ℕ
rel_number rel.Eq = EQ
rel_number rel.Ne = NE
rel_number rel.Lt = LT
rel_number rel.Le = LE
rel_number rel.Gt = GT
rel_number rel.Ge = GE

abbrev pub loc_op_words : LocOp → KcasOp
loc_op_words (loc.Get l) = call_words (call_loc_words l) GET 0 0
loc_op_words (loc.Set l v) = call_words (call_loc_words l) SET v 0
loc_op_words (loc.Exchange l v) = call_words (call_loc_words l) EXCHANGE v 0
loc_op_words (loc.Swap l m) = call_words (call_loc_words l) SWAP m.0 0
loc_op_words (loc.Cas l before after) = call_words (call_loc_words l) CAS before after
loc_op_words (loc.FetchAdd l n) = call_words (call_loc_words l) ADD n 0
loc_op_words (loc.Incr l) = call_words (call_loc_words l) INCR 0 0
loc_op_words (loc.Decr l) = call_words (call_loc_words l) DECR 0 0
loc_op_words (loc.Update l f) = call_words (call_loc_words l) UPDATE (fun_number f) (fun_with f)
loc_op_words (loc.Modify l f) = call_words (call_loc_words l) MODIFY (fun_number f) (fun_with f)
loc_op_words (loc.Check l r n) = call_words (call_loc_words l) CHECK (rel_number r) n

abbrev pub call_stack_words : KcasObject → StackAct → KcasOp
call_stack_words on (stack.Push v) = call_words on PUSH v 0
call_stack_words on stack.Pop = call_words on POP 0 0
call_stack_words on stack.PopWait = call_words on POP_WAIT 0 0
call_stack_words on stack.Top = call_words on TOP 0 0
call_stack_words on stack.Len = call_words on LEN 0 0

abbrev pub call_queue_words : KcasObject → QueueAct → KcasOp
call_queue_words on (queue.Enq v) = call_words on ENQ v 0
call_queue_words on queue.Deq = call_words on DEQ 0 0
call_queue_words on queue.DeqWait = call_words on DEQ_WAIT 0 0
call_queue_words on queue.Front = call_words on FRONT 0 0
call_queue_words on queue.Len = call_words on LEN 0 0

abbrev pub call_table_words : KcasObject → HashAct → KcasOp
call_table_words on (table.Put k v) = call_words on PUT k v
call_table_words on (table.Find k) = call_words on FIND k 0
call_table_words on (table.Del k) = call_words on DEL k 0
call_table_words on table.Len = call_words on LEN 0 0

abbrev pub grow_words : KcasObject → GrowAct → KcasOp
grow_words on (grow.Put k v) = call_words on PUT k v
grow_words on (grow.Find k) = call_words on FIND k 0
grow_words on (grow.Del k) = call_words on DEL k 0
grow_words on grow.Len = call_words on LEN 0 0

abbrev pub call_cache_words : KcasObject → CacheAct → KcasOp
call_cache_words on (cache.CPut k v) = call_words on CPUT k v
call_cache_words on (cache.CPutWait k v) = call_words on CPUT_WAIT k v
call_cache_words on (cache.CGet k) = call_words on CGET k 0
call_cache_words on (cache.CDel k) = call_words on CDEL k 0
call_cache_words on cache.Len = call_words on LEN 0 0

abbrev pub call_mvar_words : KcasObject → MvarAct → KcasOp
call_mvar_words on (mvar.Put v) = call_words on MPUT v 0
call_mvar_words on mvar.Take = call_words on MTAKE 0 0
call_mvar_words on mvar.Peek = call_words on MPEEK 0 0

abbrev pub call_promise_words : KcasObject → PromiseAct → KcasOp
call_promise_words on (promise.Resolve v) = call_words on RESOLVE v 0
call_promise_words on promise.Await = call_words on AWAIT 0 0
call_promise_words on promise.IsResolved = call_words on RESOLVED 0 0

abbrev pub accumulator_words : KcasObject → AccAct → KcasOp
accumulator_words on (acc.Bump cell v) = call_words on BUMP v cell
accumulator_words on acc.Total = call_words on TOTAL 0 0

-- ---- operations that wait for room

abbrev push_waits : KcasObject → StackAct → Option KcasOp
push_waits on (stack.Push v) = Some (call_words on PUSH_WAIT v 0)
push_waits on _ = None

abbrev enq_waits : KcasObject → QueueAct → Option KcasOp
enq_waits on (queue.Enq v) = Some (call_words on ENQ_WAIT v 0)
enq_waits on _ = None

abbrev put_waits : KcasObject → HashAct → Option KcasOp
put_waits on (table.Put k v) = Some (call_words on PUT_WAIT k v)
put_waits on _ = None

abbrev grow_put_waits : KcasObject → GrowAct → Option KcasOp
grow_put_waits on (grow.Put k v) = Some (call_words on PUT_WAIT k v)
grow_put_waits on _ = None

-- ---- all of them

-- of a cancel there are none
abbrev pub op_words : Op → KcasOp
op_words (op.Loc o) = loc_op_words o
op_words (op.Stack o) = call_stack_words (object_words (object.Stack o.stack)) o.act
op_words (op.Queue o) = call_queue_words (object_words (object.Queue o.queue)) o.act
op_words (op.Hash o) = call_table_words (object_words (object.Hash o.hash)) o.act
op_words (op.Grow o) = grow_words (object_words (object.Grow o.grow)) o.act
op_words (op.Cache o) = call_cache_words (object_words (object.Cache o.cache)) o.act
op_words (op.Mvar o) = call_mvar_words (object_words (object.Mvar o.mvar)) o.act
op_words (op.Promise o) = call_promise_words (object_words (object.Promise o.promise)) o.act
op_words (op.Acc o) = accumulator_words (object_words (object.Acc o.acc)) o.act
op_words (op.Cancel c) = say_words 0

-- where it may find no room: the same, which waits then
abbrev pub waiting_words : Op → Option KcasOp
waiting_words (op.Stack o) = push_waits (object_words (object.Stack o.stack)) o.act
waiting_words (op.Queue o) = enq_waits (object_words (object.Queue o.queue)) o.act
waiting_words (op.Hash o) = put_waits (object_words (object.Hash o.hash)) o.act
waiting_words (op.Grow o) = grow_put_waits (object_words (object.Grow o.grow)) o.act
waiting_words _ = None

-- its locations are a store's, its structure has a size that there is, and it is no cancel
abbrev pub IsSayable : Op → Type 0
IsSayable (op.Loc o) = LocIsFit o
IsSayable (op.Stack o) = IsSized (object.Stack o.stack)
IsSayable (op.Queue o) = IsSized (object.Queue o.queue)
IsSayable (op.Hash o) = IsSized (object.Hash o.hash)
IsSayable (op.Grow o) = IsSized (object.Grow o.grow)
IsSayable (op.Cache o) = IsSized (object.Cache o.cache)
IsSayable (op.Mvar o) = IsSized (object.Mvar o.mvar)
IsSayable (op.Promise o) = IsSized (object.Promise o.promise)
IsSayable (op.Acc o) = IsSized (object.Acc o.acc)
IsSayable (op.Cancel c) = ⊥
