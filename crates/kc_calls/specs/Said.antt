-- Which operation C says: by its verb, with the numbers that stand with it.
use Rattle.std.specs.Prelude.{ℕ, ◌==◌, cond, Option, Some, None}
use Rattle.std.specs.Option.{option_map, option_and_then, option_or}
use Rattle.kc_calls.specs.Structures.{structure_of}
use Rattle.kc_calls.specs.declared.call.Call.{Call}
use Rattle.kc_calls.specs.declared.call.Call.TheVariants as call
use Rattle.kc_calls.specs.declared.operation.KcasOp.{KcasOp}
use Rattle.kc_calls.specs.declared.verbs.TheConstants.{SAY, GET, SET, EXCHANGE, SWAP, CAS, ADD, INCR, DECR, UPDATE, MODIFY, CHECK, DIFFERS, PUSH, POP, POP_WAIT, TOP, ENQ, DEQ, DEQ_WAIT, FRONT, PUT, FIND, DEL, CPUT, CPUT_WAIT, CGET, CDEL, MPUT, MTAKE, MPEEK, RESOLVE, AWAIT, RESOLVED, BUMP, TOTAL, LEN, PUSH_WAIT, ENQ_WAIT, PUT_WAIT, FUN_ADD, FUN_MAX, FUN_MIN, FUN_AND, FUN_OR, FUN_XOR, EQ, NE, LT, LE, GT, GE}
use Rattle.kc_cache.specs.declared.operation.CacheAct.{CacheAct}
use Rattle.kc_cache.specs.declared.operation.CacheAct.TheVariants as cache
use Rattle.kc_cells.specs.declared.accumulator.AccAct.{AccAct}
use Rattle.kc_cells.specs.declared.accumulator.AccAct.TheVariants as acc
use Rattle.kc_cells.specs.declared.mvar.MvarAct.{MvarAct}
use Rattle.kc_cells.specs.declared.mvar.MvarAct.TheVariants as mvar
use Rattle.kc_cells.specs.declared.promise.PromiseAct.{PromiseAct}
use Rattle.kc_cells.specs.declared.promise.PromiseAct.TheVariants as promise
use Rattle.kc_grow.specs.declared.operation.GrowAct.{GrowAct}
use Rattle.kc_grow.specs.declared.operation.GrowAct.TheVariants as grow
use Rattle.kc_hash.specs.declared.operation.HashAct.{HashAct}
use Rattle.kc_hash.specs.declared.operation.HashAct.TheVariants as table
use Rattle.kc_loc.specs.declared.kinds.Fun.{Fun}
use Rattle.kc_loc.specs.declared.kinds.Fun.TheVariants as fun
use Rattle.kc_loc.specs.declared.kinds.Rel.{Rel}
use Rattle.kc_loc.specs.declared.kinds.Rel.TheVariants as rel
use Rattle.kc_loc.specs.declared.operation.LocOp.{LocOp}
use Rattle.kc_loc.specs.declared.operation.LocOp.TheVariants as loc
use Rattle.kc_model.specs.declared.footprint.Loc.{Loc}
use Rattle.kc_queue.specs.declared.operation.QueueAct.{QueueAct}
use Rattle.kc_queue.specs.declared.operation.QueueAct.TheVariants as queue
use Rattle.kc_script_bundle.specs.declared.object.Object.{Object}
use Rattle.kc_script_bundle.specs.declared.object.Object.TheVariants as object
use Rattle.kc_script_bundle.specs.declared.operation.Op.{Op}
use Rattle.kc_script_bundle.specs.declared.operation.Op.TheVariants as op
use Rattle.kc_stack.specs.declared.operation.StackAct.{StackAct}
use Rattle.kc_stack.specs.declared.operation.StackAct.TheVariants as stack

-- the function of a number, with the number that it is given beside the value
abbrev pub fun_said : ℕ → ℕ → Option Fun
fun_said f n =
    cond (f == FUN_ADD) (Some (fun.Add n))
    (cond (f == FUN_MAX) (Some (fun.Max n))
    (cond (f == FUN_MIN) (Some (fun.Min n))
    (cond (f == FUN_AND) (Some (fun.And n))
    (cond (f == FUN_OR) (Some (fun.Or n))
    (cond (f == FUN_XOR) (Some (fun.Xor n)) None)))))

abbrev pub rel_said : ℕ → Option Rel
rel_said r =
    cond (r == EQ) (Some rel.Eq)
    (cond (r == NE) (Some rel.Ne)
    (cond (r == LT) (Some rel.Lt)
    (cond (r == LE) (Some rel.Le)
    (cond (r == GT) (Some rel.Gt)
    (cond (r == GE) (Some rel.Ge) None)))))

abbrev pub loc_said : Loc → ℕ → ℕ → ℕ → Option LocOp
loc_said l verb a b =
    cond (verb == GET) (Some (loc.Get l))
    (cond (verb == SET) (Some (loc.Set l a))
    (cond (verb == EXCHANGE) (Some (loc.Exchange l a))
    (cond (verb == SWAP) (Some (loc.Swap l (record { 0 = a })))
    (cond (verb == CAS) (Some (loc.Cas l a b))
    (cond (verb == ADD) (Some (loc.FetchAdd l a))
    (cond (verb == INCR) (Some (loc.Incr l))
    (cond (verb == DECR) (Some (loc.Decr l))
    (cond (verb == UPDATE) (option_map (loc.Update l) (fun_said a b))
    (cond (verb == MODIFY) (option_map (loc.Modify l) (fun_said a b))
    (cond (verb == CHECK) (option_map (λ r. loc.Check l r b) (rel_said a))
    (cond (verb == DIFFERS) (Some (loc.Check l rel.Ne a)) None)))))))))))

abbrev pub stack_said : ℕ → ℕ → Option StackAct
stack_said verb a =
    cond (verb == PUSH) (Some (stack.Push a))
    (cond (verb == POP) (Some stack.Pop)
    (cond (verb == POP_WAIT) (Some stack.PopWait)
    (cond (verb == TOP) (Some stack.Top)
    (cond (verb == LEN) (Some stack.Len) None))))

abbrev pub queue_said : ℕ → ℕ → Option QueueAct
queue_said verb a =
    cond (verb == ENQ) (Some (queue.Enq a))
    (cond (verb == DEQ) (Some queue.Deq)
    (cond (verb == DEQ_WAIT) (Some queue.DeqWait)
    (cond (verb == FRONT) (Some queue.Front)
    (cond (verb == LEN) (Some queue.Len) None))))

abbrev pub table_said : ℕ → ℕ → ℕ → Option HashAct
table_said verb a b =
    cond (verb == PUT) (Some (table.Put a b))
    (cond (verb == FIND) (Some (table.Find a))
    (cond (verb == DEL) (Some (table.Del a))
    (cond (verb == LEN) (Some table.Len) None)))

abbrev pub grow_said : ℕ → ℕ → ℕ → Option GrowAct
grow_said verb a b =
    cond (verb == PUT) (Some (grow.Put a b))
    (cond (verb == FIND) (Some (grow.Find a))
    (cond (verb == DEL) (Some (grow.Del a))
    (cond (verb == LEN) (Some grow.Len) None)))

abbrev pub cache_said : ℕ → ℕ → ℕ → Option CacheAct
cache_said verb a b =
    cond (verb == CPUT) (Some (cache.CPut a b))
    (cond (verb == CPUT_WAIT) (Some (cache.CPutWait a b))
    (cond (verb == CGET) (Some (cache.CGet a))
    (cond (verb == CDEL) (Some (cache.CDel a))
    (cond (verb == LEN) (Some cache.Len) None))))

abbrev pub mvar_said : ℕ → ℕ → Option MvarAct
mvar_said verb a =
    cond (verb == MPUT) (Some (mvar.Put a))
    (cond (verb == MTAKE) (Some mvar.Take)
    (cond (verb == MPEEK) (Some mvar.Peek) None))

abbrev pub promise_said : ℕ → ℕ → Option PromiseAct
promise_said verb a =
    cond (verb == RESOLVE) (Some (promise.Resolve a))
    (cond (verb == AWAIT) (Some promise.Await)
    (cond (verb == RESOLVED) (Some promise.IsResolved) None))

-- the number to add, and to which cell
abbrev pub accumulator_said : ℕ → ℕ → ℕ → Option AccAct
accumulator_said verb a b =
    cond (verb == BUMP) (Some (acc.Bump b a))
    (cond (verb == TOTAL) (Some acc.Total) None)

-- what is done to a structure
abbrev pub acted : Object → ℕ → ℕ → ℕ → Option Op
acted (object.Loc at value) verb a b = option_map op.Loc (loc_said at verb a b)
acted (object.Stack s) verb a b = option_map (λ act. op.Stack (record { stack = s; act = act })) (stack_said verb a)
acted (object.Queue q) verb a b = option_map (λ act. op.Queue (record { queue = q; act = act })) (queue_said verb a)
acted (object.Hash h) verb a b = option_map (λ act. op.Hash (record { hash = h; act = act })) (table_said verb a b)
acted (object.Grow g) verb a b = option_map (λ act. op.Grow (record { grow = g; act = act })) (grow_said verb a b)
acted (object.Cache c) verb a b = option_map (λ act. op.Cache (record { cache = c; act = act })) (cache_said verb a b)
acted (object.Mvar x) verb a b = option_map (λ act. op.Mvar (record { mvar = x; act = act })) (mvar_said verb a)
acted (object.Promise p) verb a b = option_map (λ act. op.Promise (record { promise = p; act = act })) (promise_said verb a)
acted (object.Acc x) verb a b = option_map (λ act. op.Acc (record { acc = x; act = act })) (accumulator_said verb a b)

-- the verb that does the same, and replies that there is no room where this one waits
abbrev pub plain_verb : ℕ → Option ℕ
plain_verb verb =
    cond (verb == PUSH_WAIT) (Some PUSH)
    (cond (verb == ENQ_WAIT) (Some ENQ)
    (cond (verb == PUT_WAIT) (Some PUT) None))

abbrev pub waits_for_room : Object → ℕ → ℕ → ℕ → Option Op
waits_for_room s verb a b = option_and_then (λ plain. acted s plain a b) (plain_verb verb)

unfoldable pub done_to : Object → ℕ → ℕ → ℕ → Option Call
done_to s verb a b = option_or (option_map call.Act (acted s verb a b)) (option_map call.WaitForRoom (waits_for_room s verb a b))

-- the operation, if it is one
unfoldable pub call_said : KcasOp → Option Call
call_said o = cond (o.verb == SAY) (Some (call.Say o.a)) (option_and_then (λ s. done_to s o.verb o.a o.b) (structure_of o.on))
