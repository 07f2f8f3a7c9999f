-- What an operation is fed doesn't change its end.
use Rattle.std.proofs.Common.{◌≡◌, ℕ, ◌==◌, ◌||◌, Bool, true, false, cond, not, Option, Some, None, refl, sym, ap, ◌∙◌}
use Rattle.std.specs.Option.{option_and_then, option_map, option_or}
use Rattle.kc_calls.specs.Fed.{takes_number}
use Rattle.kc_calls.specs.Meaning.{call_end, end_said}
use Rattle.kc_calls.specs.Said.{acted, accumulator_said, cache_said, call_said, done_to, fun_said, grow_said, loc_said, mvar_said, promise_said, queue_said, rel_said, stack_said, table_said, waits_for_room}
use Rattle.kc_calls.specs.Structures.{structure_of}
use Rattle.kc_calls.specs.declared.call.Call.{Call}
use Rattle.kc_calls.specs.declared.call.Call.TheVariants as call
use Rattle.kc_calls.specs.declared.operation.KcasOp.{KcasOp}
use Rattle.kc_calls.specs.declared.verbs.TheConstants.{SAY, GET, SET, EXCHANGE, SWAP, CAS, ADD, INCR, DECR, UPDATE, MODIFY, CHECK, DIFFERS, PUSH, POP, POP_WAIT, TOP, ENQ, DEQ, DEQ_WAIT, FRONT, PUT, FIND, DEL, CPUT, CPUT_WAIT, CGET, CDEL, MPUT, MTAKE, MPEEK, RESOLVE, AWAIT, RESOLVED, BUMP, TOTAL, LEN, PUSH_WAIT, ENQ_WAIT, PUT_WAIT, FUN_ADD, FUN_MAX, FUN_MIN, FUN_AND, FUN_OR, FUN_XOR}
use Rattle.kc_cache.specs.Meaning.{cache_cells_end}
use Rattle.kc_cache.specs.declared.operation.CacheAct.{CacheAct}
use Rattle.kc_cache.specs.declared.operation.CacheAct.TheVariants as cache
use Rattle.kc_cells.specs.Accumulator.{acc_cells_end}
use Rattle.kc_cells.specs.Mvar.{mvar_cells_end}
use Rattle.kc_cells.specs.Promise.{promise_cells_end}
use Rattle.kc_cells.specs.declared.accumulator.AccAct.{AccAct}
use Rattle.kc_cells.specs.declared.accumulator.AccAct.TheVariants as acc
use Rattle.kc_cells.specs.declared.mvar.MvarAct.{MvarAct}
use Rattle.kc_cells.specs.declared.mvar.MvarAct.TheVariants as mvar
use Rattle.kc_cells.specs.declared.promise.PromiseAct.{PromiseAct}
use Rattle.kc_cells.specs.declared.promise.PromiseAct.TheVariants as promise
use Rattle.kc_grow.specs.Meaning.{grow_end_of}
use Rattle.kc_grow.specs.declared.operation.GrowAct.{GrowAct}
use Rattle.kc_grow.specs.declared.operation.GrowAct.TheVariants as grow
use Rattle.kc_hash.specs.Meaning.{hash_cells_end}
use Rattle.kc_hash.specs.declared.operation.HashAct.{HashAct}
use Rattle.kc_hash.specs.declared.operation.HashAct.TheVariants as table
use Rattle.kc_loc.specs.declared.kinds.Fun.TheVariants as fun
use Rattle.kc_loc.specs.declared.kinds.Rel.TheVariants as rel
use Rattle.kc_queue.specs.Meaning.{queue_cells_end}
use Rattle.kc_queue.specs.declared.operation.QueueAct.{QueueAct}
use Rattle.kc_queue.specs.declared.operation.QueueAct.TheVariants as queue
use Rattle.kc_stack.specs.Meaning.{stack_cells_end}
use Rattle.kc_stack.specs.declared.operation.StackAct.{StackAct}
use Rattle.kc_stack.specs.declared.operation.StackAct.TheVariants as stack
use Rattle.kc_loc.specs.Meaning.{loc_end}
use Rattle.kc_loc.specs.declared.kinds.Fun.{Fun}
use Rattle.kc_loc.specs.declared.kinds.Rel.{Rel}
use Rattle.kc_loc.specs.declared.operation.LocOp.{LocOp}
use Rattle.kc_loc.specs.declared.operation.LocOp.TheVariants as loc
use Rattle.kc_model.specs.declared.footprint.Loc.{Loc}
use Rattle.kc_script_bundle.specs.Meaning.{op_end}
use Rattle.kc_script_bundle.specs.declared.object.Object.{Object}
use Rattle.kc_script_bundle.specs.declared.object.Object.TheVariants as object
use Rattle.kc_script_bundle.specs.declared.operation.Op.{Op}
use Rattle.kc_script_bundle.specs.declared.operation.Op.TheVariants as op

-- ---- operations of a verb: which there is doesn't depend on the numbers that it is given

abbrev nothing_of : {X : Type 0} → X → ℕ
nothing_of x = 0

-- what is made of each has one number
made : {X Y : Type 0} (f : Y → ℕ) (g : X → Y) (n : ℕ) → ((x : X) → f (g x) ≡ n) → (p q : Option X) → option_map {U = ℕ} nothing_of p ≡ option_map {U = ℕ} nothing_of q → option_map f (option_map g p) ≡ option_map f (option_map g q)
made f g n h (Some x) (Some y) e = ap Some (h x ∙ sym (h y))
made f g n h (Some x) None e = absurd (cc)
made f g n h None (Some y) e = absurd (cc)
made f g n h None None e = refl

fun_same : (f n m : ℕ) → option_map {U = ℕ} nothing_of (fun_said f n) ≡ option_map {U = ℕ} nothing_of (fun_said f m)
fun_same f n m = by (f == FUN_ADD) (f == FUN_MAX) (f == FUN_MIN) (f == FUN_AND) (f == FUN_OR) (f == FUN_XOR)
  where
    by : (t0 t1 t2 t3 t4 t5 : Bool) → option_map {U = ℕ} (nothing_of {X = Fun}) (cond t0 (Some (fun.Add n)) (cond t1 (Some (fun.Max n)) (cond t2 (Some (fun.Min n)) (cond t3 (Some (fun.And n)) (cond t4 (Some (fun.Or n)) (cond t5 (Some (fun.Xor n)) None)))))) ≡ option_map {U = ℕ} (nothing_of {X = Fun}) (cond t0 (Some (fun.Add m)) (cond t1 (Some (fun.Max m)) (cond t2 (Some (fun.Min m)) (cond t3 (Some (fun.And m)) (cond t4 (Some (fun.Or m)) (cond t5 (Some (fun.Xor m)) None))))))
    by true t1 t2 t3 t4 t5 = refl
    by false true t2 t3 t4 t5 = refl
    by false false true t3 t4 t5 = refl
    by false false false true t4 t5 = refl
    by false false false false true t5 = refl
    by false false false false false true = refl
    by false false false false false false = refl

check_same : (l : Loc) (b c : ℕ) (r : Option Rel) → option_map loc_end (option_map (λ x. loc.Check l x b) r) ≡ option_map loc_end (option_map (λ x. loc.Check l x c) r)
check_same l b c (Some x) = refl
check_same l b c None = refl

-- another second number
loc_same_b : (l : Loc) (verb a b c : ℕ) → option_map loc_end (loc_said l verb a b) ≡ option_map loc_end (loc_said l verb a c)
loc_same_b l verb a b c = by (verb == GET) (verb == SET) (verb == EXCHANGE) (verb == SWAP) (verb == CAS) (verb == ADD) (verb == INCR) (verb == DECR) (verb == UPDATE) (verb == MODIFY) (verb == CHECK) (verb == DIFFERS)
  where
    by : (t0 t1 t2 t3 t4 t5 t6 t7 t8 t9 t10 t11 : Bool) → option_map loc_end (cond t0 (Some (loc.Get l)) (cond t1 (Some (loc.Set l a)) (cond t2 (Some (loc.Exchange l a)) (cond t3 (Some (loc.Swap l (record { 0 = a }))) (cond t4 (Some (loc.Cas l a b)) (cond t5 (Some (loc.FetchAdd l a)) (cond t6 (Some (loc.Incr l)) (cond t7 (Some (loc.Decr l)) (cond t8 (option_map (loc.Update l) (fun_said a b)) (cond t9 (option_map (loc.Modify l) (fun_said a b)) (cond t10 (option_map (λ r. loc.Check l r b) (rel_said a)) (cond t11 (Some (loc.Check l rel.Ne a)) None)))))))))))) ≡ option_map loc_end (cond t0 (Some (loc.Get l)) (cond t1 (Some (loc.Set l a)) (cond t2 (Some (loc.Exchange l a)) (cond t3 (Some (loc.Swap l (record { 0 = a }))) (cond t4 (Some (loc.Cas l a c)) (cond t5 (Some (loc.FetchAdd l a)) (cond t6 (Some (loc.Incr l)) (cond t7 (Some (loc.Decr l)) (cond t8 (option_map (loc.Update l) (fun_said a c)) (cond t9 (option_map (loc.Modify l) (fun_said a c)) (cond t10 (option_map (λ r. loc.Check l r c) (rel_said a)) (cond t11 (Some (loc.Check l rel.Ne a)) None))))))))))))
    by true t1 t2 t3 t4 t5 t6 t7 t8 t9 t10 t11 = refl
    by false true t2 t3 t4 t5 t6 t7 t8 t9 t10 t11 = refl
    by false false true t3 t4 t5 t6 t7 t8 t9 t10 t11 = refl
    by false false false true t4 t5 t6 t7 t8 t9 t10 t11 = refl
    by false false false false true t5 t6 t7 t8 t9 t10 t11 = refl
    by false false false false false true t6 t7 t8 t9 t10 t11 = refl
    by false false false false false false true t7 t8 t9 t10 t11 = refl
    by false false false false false false false true t8 t9 t10 t11 = refl
    by false false false false false false false false true t9 t10 t11 = made loc_end (loc.Update l) (loc_end (loc.Get l)) (λ f. refl) (fun_said a b) (fun_said a c) (fun_same a b c)
    by false false false false false false false false false true t10 t11 = made loc_end (loc.Modify l) (loc_end (loc.Get l)) (λ f. refl) (fun_said a b) (fun_said a c) (fun_same a b c)
    by false false false false false false false false false false true t11 = check_same l b c (rel_said a)
    by false false false false false false false false false false false true = refl
    by false false false false false false false false false false false false = refl

-- another first number, where that is no location, function or relation
loc_same_a : (l : Loc) (verb a b c : ℕ) → takes_number verb ≡ true → option_map loc_end (loc_said l verb a b) ≡ option_map loc_end (loc_said l verb c b)
loc_same_a l verb a b c takes = by (verb == GET) (verb == SET) (verb == EXCHANGE) (verb == SWAP) (verb == CAS) (verb == ADD) (verb == INCR) (verb == DECR) (verb == UPDATE) (verb == MODIFY) (verb == CHECK) (verb == DIFFERS) takes
  where
    by : (t0 t1 t2 t3 t4 t5 t6 t7 t8 t9 t10 t11 : Bool) → not (t3 || (t8 || (t9 || t10))) ≡ true → option_map loc_end (cond t0 (Some (loc.Get l)) (cond t1 (Some (loc.Set l a)) (cond t2 (Some (loc.Exchange l a)) (cond t3 (Some (loc.Swap l (record { 0 = a }))) (cond t4 (Some (loc.Cas l a b)) (cond t5 (Some (loc.FetchAdd l a)) (cond t6 (Some (loc.Incr l)) (cond t7 (Some (loc.Decr l)) (cond t8 (option_map (loc.Update l) (fun_said a b)) (cond t9 (option_map (loc.Modify l) (fun_said a b)) (cond t10 (option_map (λ r. loc.Check l r b) (rel_said a)) (cond t11 (Some (loc.Check l rel.Ne a)) None)))))))))))) ≡ option_map loc_end (cond t0 (Some (loc.Get l)) (cond t1 (Some (loc.Set l c)) (cond t2 (Some (loc.Exchange l c)) (cond t3 (Some (loc.Swap l (record { 0 = c }))) (cond t4 (Some (loc.Cas l c b)) (cond t5 (Some (loc.FetchAdd l c)) (cond t6 (Some (loc.Incr l)) (cond t7 (Some (loc.Decr l)) (cond t8 (option_map (loc.Update l) (fun_said c b)) (cond t9 (option_map (loc.Modify l) (fun_said c b)) (cond t10 (option_map (λ r. loc.Check l r b) (rel_said c)) (cond t11 (Some (loc.Check l rel.Ne c)) None))))))))))))
    by true t1 t2 t3 t4 t5 t6 t7 t8 t9 t10 t11 h = refl
    by false true t2 t3 t4 t5 t6 t7 t8 t9 t10 t11 h = refl
    by false false true t3 t4 t5 t6 t7 t8 t9 t10 t11 h = refl
    by false false false true t4 t5 t6 t7 t8 t9 t10 t11 h = absurd (cc)
    by false false false false true t5 t6 t7 t8 t9 t10 t11 h = refl
    by false false false false false true t6 t7 t8 t9 t10 t11 h = refl
    by false false false false false false true t7 t8 t9 t10 t11 h = refl
    by false false false false false false false true t8 t9 t10 t11 h = refl
    by false false false false false false false false true t9 t10 t11 h = absurd (cc)
    by false false false false false false false false false true t10 t11 h = absurd (cc)
    by false false false false false false false false false false true t11 h = absurd (cc)
    by false false false false false false false false false false false true h = refl
    by false false false false false false false false false false false false h = refl

loc_made : (p q : Option LocOp) → option_map loc_end p ≡ option_map loc_end q → option_map op_end (option_map op.Loc p) ≡ option_map op_end (option_map op.Loc q)
loc_made (Some x) (Some y) e = e
loc_made (Some x) None e = absurd (cc)
loc_made None (Some y) e = absurd (cc)
loc_made None None e = refl

-- ---- structures

stack_same : (verb a c : ℕ) → option_map {U = ℕ} nothing_of (stack_said verb a) ≡ option_map {U = ℕ} nothing_of (stack_said verb c)
stack_same verb a c = by (verb == PUSH) (verb == POP) (verb == POP_WAIT) (verb == TOP) (verb == LEN)
  where
    by : (t0 t1 t2 t3 t4 : Bool) → option_map {U = ℕ} (nothing_of {X = StackAct}) (cond t0 (Some (stack.Push a)) (cond t1 (Some stack.Pop) (cond t2 (Some stack.PopWait) (cond t3 (Some stack.Top) (cond t4 (Some stack.Len) None))))) ≡ option_map {U = ℕ} (nothing_of {X = StackAct}) (cond t0 (Some (stack.Push c)) (cond t1 (Some stack.Pop) (cond t2 (Some stack.PopWait) (cond t3 (Some stack.Top) (cond t4 (Some stack.Len) None)))))
    by true t1 t2 t3 t4 = refl
    by false true t2 t3 t4 = refl
    by false false true t3 t4 = refl
    by false false false true t4 = refl
    by false false false false true = refl
    by false false false false false = refl

queue_same : (verb a c : ℕ) → option_map {U = ℕ} nothing_of (queue_said verb a) ≡ option_map {U = ℕ} nothing_of (queue_said verb c)
queue_same verb a c = by (verb == ENQ) (verb == DEQ) (verb == DEQ_WAIT) (verb == FRONT) (verb == LEN)
  where
    by : (t0 t1 t2 t3 t4 : Bool) → option_map {U = ℕ} (nothing_of {X = QueueAct}) (cond t0 (Some (queue.Enq a)) (cond t1 (Some queue.Deq) (cond t2 (Some queue.DeqWait) (cond t3 (Some queue.Front) (cond t4 (Some queue.Len) None))))) ≡ option_map {U = ℕ} (nothing_of {X = QueueAct}) (cond t0 (Some (queue.Enq c)) (cond t1 (Some queue.Deq) (cond t2 (Some queue.DeqWait) (cond t3 (Some queue.Front) (cond t4 (Some queue.Len) None)))))
    by true t1 t2 t3 t4 = refl
    by false true t2 t3 t4 = refl
    by false false true t3 t4 = refl
    by false false false true t4 = refl
    by false false false false true = refl
    by false false false false false = refl

table_same : (verb a b c d : ℕ) → option_map {U = ℕ} nothing_of (table_said verb a b) ≡ option_map {U = ℕ} nothing_of (table_said verb c d)
table_same verb a b c d = by (verb == PUT) (verb == FIND) (verb == DEL) (verb == LEN)
  where
    by : (t0 t1 t2 t3 : Bool) → option_map {U = ℕ} (nothing_of {X = HashAct}) (cond t0 (Some (table.Put a b)) (cond t1 (Some (table.Find a)) (cond t2 (Some (table.Del a)) (cond t3 (Some table.Len) None)))) ≡ option_map {U = ℕ} (nothing_of {X = HashAct}) (cond t0 (Some (table.Put c d)) (cond t1 (Some (table.Find c)) (cond t2 (Some (table.Del c)) (cond t3 (Some table.Len) None))))
    by true t1 t2 t3 = refl
    by false true t2 t3 = refl
    by false false true t3 = refl
    by false false false true = refl
    by false false false false = refl

grow_same : (verb a b c d : ℕ) → option_map {U = ℕ} nothing_of (grow_said verb a b) ≡ option_map {U = ℕ} nothing_of (grow_said verb c d)
grow_same verb a b c d = by (verb == PUT) (verb == FIND) (verb == DEL) (verb == LEN)
  where
    by : (t0 t1 t2 t3 : Bool) → option_map {U = ℕ} (nothing_of {X = GrowAct}) (cond t0 (Some (grow.Put a b)) (cond t1 (Some (grow.Find a)) (cond t2 (Some (grow.Del a)) (cond t3 (Some grow.Len) None)))) ≡ option_map {U = ℕ} (nothing_of {X = GrowAct}) (cond t0 (Some (grow.Put c d)) (cond t1 (Some (grow.Find c)) (cond t2 (Some (grow.Del c)) (cond t3 (Some grow.Len) None))))
    by true t1 t2 t3 = refl
    by false true t2 t3 = refl
    by false false true t3 = refl
    by false false false true = refl
    by false false false false = refl

cache_same : (verb a b c d : ℕ) → option_map {U = ℕ} nothing_of (cache_said verb a b) ≡ option_map {U = ℕ} nothing_of (cache_said verb c d)
cache_same verb a b c d = by (verb == CPUT) (verb == CPUT_WAIT) (verb == CGET) (verb == CDEL) (verb == LEN)
  where
    by : (t0 t1 t2 t3 t4 : Bool) → option_map {U = ℕ} (nothing_of {X = CacheAct}) (cond t0 (Some (cache.CPut a b)) (cond t1 (Some (cache.CPutWait a b)) (cond t2 (Some (cache.CGet a)) (cond t3 (Some (cache.CDel a)) (cond t4 (Some cache.Len) None))))) ≡ option_map {U = ℕ} (nothing_of {X = CacheAct}) (cond t0 (Some (cache.CPut c d)) (cond t1 (Some (cache.CPutWait c d)) (cond t2 (Some (cache.CGet c)) (cond t3 (Some (cache.CDel c)) (cond t4 (Some cache.Len) None)))))
    by true t1 t2 t3 t4 = refl
    by false true t2 t3 t4 = refl
    by false false true t3 t4 = refl
    by false false false true t4 = refl
    by false false false false true = refl
    by false false false false false = refl

mvar_same : (verb a c : ℕ) → option_map {U = ℕ} nothing_of (mvar_said verb a) ≡ option_map {U = ℕ} nothing_of (mvar_said verb c)
mvar_same verb a c = by (verb == MPUT) (verb == MTAKE) (verb == MPEEK)
  where
    by : (t0 t1 t2 : Bool) → option_map {U = ℕ} (nothing_of {X = MvarAct}) (cond t0 (Some (mvar.Put a)) (cond t1 (Some mvar.Take) (cond t2 (Some mvar.Peek) None))) ≡ option_map {U = ℕ} (nothing_of {X = MvarAct}) (cond t0 (Some (mvar.Put c)) (cond t1 (Some mvar.Take) (cond t2 (Some mvar.Peek) None)))
    by true t1 t2 = refl
    by false true t2 = refl
    by false false true = refl
    by false false false = refl

promise_same : (verb a c : ℕ) → option_map {U = ℕ} nothing_of (promise_said verb a) ≡ option_map {U = ℕ} nothing_of (promise_said verb c)
promise_same verb a c = by (verb == RESOLVE) (verb == AWAIT) (verb == RESOLVED)
  where
    by : (t0 t1 t2 : Bool) → option_map {U = ℕ} (nothing_of {X = PromiseAct}) (cond t0 (Some (promise.Resolve a)) (cond t1 (Some promise.Await) (cond t2 (Some promise.IsResolved) None))) ≡ option_map {U = ℕ} (nothing_of {X = PromiseAct}) (cond t0 (Some (promise.Resolve c)) (cond t1 (Some promise.Await) (cond t2 (Some promise.IsResolved) None)))
    by true t1 t2 = refl
    by false true t2 = refl
    by false false true = refl
    by false false false = refl

accumulator_same : (verb a b c d : ℕ) → option_map {U = ℕ} nothing_of (accumulator_said verb a b) ≡ option_map {U = ℕ} nothing_of (accumulator_said verb c d)
accumulator_same verb a b c d = by (verb == BUMP) (verb == TOTAL)
  where
    by : (t0 t1 : Bool) → option_map {U = ℕ} (nothing_of {X = AccAct}) (cond t0 (Some (acc.Bump b a)) (cond t1 (Some acc.Total) None)) ≡ option_map {U = ℕ} (nothing_of {X = AccAct}) (cond t0 (Some (acc.Bump d c)) (cond t1 (Some acc.Total) None))
    by true t1 = refl
    by false true = refl
    by false false = refl

-- other numbers of the verb: each has an operation or neither
acted_same : (s : Object) (verb a b c d : ℕ) → ((l : Loc) → option_map loc_end (loc_said l verb a b) ≡ option_map loc_end (loc_said l verb c d)) → option_map op_end (acted s verb a b) ≡ option_map op_end (acted s verb c d)
acted_same (object.Loc at value) verb a b c d h = loc_made (loc_said at verb a b) (loc_said at verb c d) (h at)
acted_same (object.Stack s) verb a b c d h = made op_end (λ act. op.Stack (record { stack = s; act = act })) (stack_cells_end s) (λ x. refl) (stack_said verb a) (stack_said verb c) (stack_same verb a c)
acted_same (object.Queue q) verb a b c d h = made op_end (λ act. op.Queue (record { queue = q; act = act })) (queue_cells_end q) (λ x. refl) (queue_said verb a) (queue_said verb c) (queue_same verb a c)
acted_same (object.Hash t) verb a b c d h = made op_end (λ act. op.Hash (record { hash = t; act = act })) (hash_cells_end t) (λ x. refl) (table_said verb a b) (table_said verb c d) (table_same verb a b c d)
acted_same (object.Grow g) verb a b c d h = made op_end (λ act. op.Grow (record { grow = g; act = act })) (grow_end_of g) (λ x. refl) (grow_said verb a b) (grow_said verb c d) (grow_same verb a b c d)
acted_same (object.Cache x) verb a b c d h = made op_end (λ act. op.Cache (record { cache = x; act = act })) (cache_cells_end x) (λ y. refl) (cache_said verb a b) (cache_said verb c d) (cache_same verb a b c d)
acted_same (object.Mvar x) verb a b c d h = made op_end (λ act. op.Mvar (record { mvar = x; act = act })) (mvar_cells_end x) (λ y. refl) (mvar_said verb a) (mvar_said verb c) (mvar_same verb a c)
acted_same (object.Promise p) verb a b c d h = made op_end (λ act. op.Promise (record { promise = p; act = act })) (promise_cells_end p) (λ x. refl) (promise_said verb a) (promise_said verb c) (promise_same verb a c)
acted_same (object.Acc x) verb a b c d h = made op_end (λ act. op.Acc (record { acc = x; act = act })) (acc_cells_end x) (λ y. refl) (accumulator_said verb a b) (accumulator_said verb c d) (accumulator_same verb a b c d)

abbrev LocSame : (verb a b c d : ℕ) → Type 0
LocSame verb a b c d = (l : Loc) → option_map loc_end (loc_said l verb a b) ≡ option_map loc_end (loc_said l verb c d)

room_same : (s : Object) (verb a b c d : ℕ) → option_map op_end (waits_for_room s verb a b) ≡ option_map op_end (waits_for_room s verb c d)
room_same s verb a b c d = by (verb == PUSH_WAIT) (verb == ENQ_WAIT) (verb == PUT_WAIT)
  where
    no_loc : (plain : ℕ) → ((l : Loc) (x y : ℕ) → loc_said l plain x y ≡ None) → LocSame plain a b c d
    no_loc plain h l = ap (option_map loc_end) (h l a b ∙ sym (h l c d))

    by : (t u w : Bool) → option_map op_end (option_and_then (λ plain. acted s plain a b) (cond t (Some PUSH) (cond u (Some ENQ) (cond w (Some PUT) None)))) ≡ option_map op_end (option_and_then (λ plain. acted s plain c d) (cond t (Some PUSH) (cond u (Some ENQ) (cond w (Some PUT) None))))
    by true u w = acted_same s PUSH a b c d (no_loc PUSH (λ l x y. refl))
    by false true w = acted_same s ENQ a b c d (no_loc ENQ (λ l x y. refl))
    by false false true = acted_same s PUT a b c d (no_loc PUT (λ l x y. refl))
    by false false false = refl

-- ---- calls

either_same : (p q r s : Option Op) → option_map op_end p ≡ option_map op_end q → option_map op_end r ≡ option_map op_end s → option_map call_end (option_or (option_map call.Act p) (option_map call.WaitForRoom r)) ≡ option_map call_end (option_or (option_map call.Act q) (option_map call.WaitForRoom s))
either_same (Some x) (Some y) r s e h = e
either_same (Some x) None r s e h = absurd (cc)
either_same None (Some y) r s e h = absurd (cc)
either_same None None (Some x) (Some y) e h = h
either_same None None (Some x) None e h = absurd (cc)
either_same None None None (Some y) e h = absurd (cc)
either_same None None None None e h = refl

call_same : (o : KcasOp) (c d : ℕ) → LocSame o.verb o.a o.b c d → option_map call_end (call_said (record o { a = c; b = d })) ≡ option_map call_end (call_said o)
unfolding call_said done_to
call_same o c d h = by (o.verb == SAY) (structure_of o.on)
  where
    by : (t : Bool) (s : Option Object) → option_map call_end (cond t (Some (call.Say c)) (option_and_then (λ s. done_to s o.verb c d) s)) ≡ option_map call_end (cond t (Some (call.Say o.a)) (option_and_then (λ s. done_to s o.verb o.a o.b) s))
    by true s = refl
    by false None = refl
    by false (Some s) = sym (either_same (acted s o.verb o.a o.b) (acted s o.verb c d) (waits_for_room s o.verb o.a o.b) (waits_for_room s o.verb c d) (acted_same s o.verb o.a o.b c d h) (room_same s o.verb o.a o.b c d))

pub same_with_a : (o : KcasOp) (n : ℕ) → takes_number o.verb ≡ true → option_map call_end (call_said (record o { a = n })) ≡ option_map call_end (call_said o)
same_with_a o n takes = call_same o n o.b (λ l. loc_same_a l o.verb o.a o.b n takes)

pub same_with_b : (o : KcasOp) (n : ℕ) → option_map call_end (call_said (record o { b = n })) ≡ option_map call_end (call_said o)
same_with_b o n = call_same o o.a n (λ l. loc_same_b l o.verb o.a o.b n)

-- ---- what follows

pub end_of_same : (x y : Option Call) → option_map call_end x ≡ option_map call_end y → end_said x ≡ end_said y
end_of_same (Some x) (Some y) e = cc
end_of_same (Some x) None e = absurd (cc)
end_of_same None (Some y) e = absurd (cc)
end_of_same None None e = refl

pub call_of_same : (x y : Option Call) → option_map call_end x ≡ option_map call_end y → (c : Call) → y ≡ Some c → (d : Call) × (x ≡ Some d) × (call_end d ≡ call_end c)
call_of_same (Some x) y e c is = (x, refl, (let f : Some (call_end x) ≡ Some (call_end c) = e ∙ ap (option_map call_end) is in cc))
call_of_same None y e c is = absurd (let f : None ≡ Some (call_end c) = e ∙ ap (option_map call_end) is in cc)
