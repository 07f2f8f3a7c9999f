-- What C's numbers say.
use Rattle.std.proofs.Common.{◌≡◌, ◌==◌, ◌≤◌, ◌+◌, Bool, true, false, cond, Option, Some, None, IfSome, refl, sym, ap, ◌∙◌, arith, eq-eqb, eqb-true}
use Rattle.std.proofs.lemmas.Bool.{cond-true}
use Rattle.std.specs.Option.{option_map, option_and_then, option_or}
use Rattle.kc_calls.proofs.Placing.{laid_is, stack_laid, queue_laid, table_laid, grow_laid, cache_laid, mvar_laid, promise_laid, accumulator_laid}
use Rattle.kc_calls.specs.Said.{call_said, done_to, fun_said, rel_said, loc_said, waits_for_room}
use Rattle.kc_calls.specs.Structures.{structure_of, location_at}
use Rattle.kc_calls.specs.Words.{call_words, call_loc_words, object_words, fun_number, fun_with, rel_number, loc_op_words, call_stack_words, call_queue_words, call_table_words, grow_words, call_cache_words, call_mvar_words, call_promise_words, accumulator_words, op_words, waiting_words, IsSayable}
use Rattle.kc_calls.specs.declared.call.Call.TheVariants as call
use Rattle.kc_calls.specs.declared.kinds.TheConstants.{LOCATION}
use Rattle.kc_calls.specs.declared.operation.KcasOp.{KcasOp}
use Rattle.kc_calls.specs.declared.verbs.TheConstants.{SAY, PUSH_WAIT, ENQ_WAIT, PUT_WAIT}
use Rattle.kc_cache.specs.declared.cache.Cache.{Cache}
use Rattle.kc_cache.specs.declared.operation.CacheAct.{CacheAct}
use Rattle.kc_cache.specs.declared.operation.CacheAct.TheVariants as cache
use Rattle.kc_cells.specs.declared.accumulator.AccAct.{AccAct}
use Rattle.kc_cells.specs.declared.accumulator.AccAct.TheVariants as acc
use Rattle.kc_cells.specs.declared.accumulator.Accumulator.{Accumulator}
use Rattle.kc_cells.specs.declared.mvar.Mvar.{Mvar}
use Rattle.kc_cells.specs.declared.mvar.MvarAct.{MvarAct}
use Rattle.kc_cells.specs.declared.mvar.MvarAct.TheVariants as mvar
use Rattle.kc_cells.specs.declared.promise.Promise.{Promise}
use Rattle.kc_cells.specs.declared.promise.PromiseAct.{PromiseAct}
use Rattle.kc_cells.specs.declared.promise.PromiseAct.TheVariants as promise
use Rattle.kc_grow.specs.declared.grow.Grow.{Grow}
use Rattle.kc_grow.specs.declared.operation.GrowAct.{GrowAct}
use Rattle.kc_grow.specs.declared.operation.GrowAct.TheVariants as grow
use Rattle.kc_hash.specs.declared.hash.Hash.{Hash}
use Rattle.kc_hash.specs.declared.operation.HashAct.{HashAct}
use Rattle.kc_hash.specs.declared.operation.HashAct.TheVariants as table
use Rattle.kc_loc.specs.Meaning.{LocIsFit}
use Rattle.kc_loc.specs.declared.kinds.Fun.{Fun}
use Rattle.kc_loc.specs.declared.kinds.Fun.TheVariants as fun
use Rattle.kc_loc.specs.declared.kinds.Rel.{Rel}
use Rattle.kc_loc.specs.declared.kinds.Rel.TheVariants as rel
use Rattle.kc_loc.specs.declared.operation.LocOp.{LocOp}
use Rattle.kc_loc.specs.declared.operation.LocOp.TheVariants as loc
use Rattle.kc_model.specs.declared.footprint.Loc.{Loc}
use Rattle.kc_model.specs.declared.plain_store.TheConstants.{MOST_LOCATIONS}
use Rattle.kc_queue.specs.declared.operation.QueueAct.{QueueAct}
use Rattle.kc_queue.specs.declared.operation.QueueAct.TheVariants as queue
use Rattle.kc_queue.specs.declared.queue.Queue.{Queue}
use Rattle.kc_script_bundle.specs.Script.{IsSized}
use Rattle.kc_script_bundle.specs.declared.object.Object.{Object}
use Rattle.kc_script_bundle.specs.declared.object.Object.TheVariants as object
use Rattle.kc_script_bundle.specs.declared.operation.Op.{Op}
use Rattle.kc_script_bundle.specs.declared.operation.Op.TheVariants as op
use Rattle.kc_stack.specs.declared.operation.StackAct.{StackAct}
use Rattle.kc_stack.specs.declared.operation.StackAct.TheVariants as stack
use Rattle.kc_stack.specs.declared.stack.Stack.{Stack}

abbrev Says : KcasOp → Op → Type 0
Says o p = call_said o ≡ Some (call.Act p)

-- what is done to the structure that is said
by_structure : (o : KcasOp) (s : Object) → structure_of o.on ≡ Some s → (o.verb == SAY) ≡ false → call_said o ≡ done_to s o.verb o.a o.b
unfolding call_said
by_structure o s e f =
    ap (λ t. cond t (Some (call.Say o.a)) (option_and_then (λ s. done_to s o.verb o.a o.b) (structure_of o.on))) f
    ∙ ap (option_and_then (λ s. done_to s o.verb o.a o.b)) e

fun_says : (f : Fun) → fun_said (fun_number f) (fun_with f) ≡ Some f
fun_says (fun.Add n) = refl
fun_says (fun.Max n) = refl
fun_says (fun.Min n) = refl
fun_says (fun.And n) = refl
fun_says (fun.Or n) = refl
fun_says (fun.Xor n) = refl

rel_says : (r : Rel) → rel_said (rel_number r) ≡ Some r
rel_says rel.Eq = refl
rel_says rel.Ne = refl
rel_says rel.Lt = refl
rel_says rel.Le = refl
rel_says rel.Gt = refl
rel_says rel.Ge = refl

-- ---- locations

at_loc : (l : Loc) → l.0 + 1 ≤ MOST_LOCATIONS → structure_of (call_loc_words l) ≡ Some (object.Loc l 0)
unfolding structure_of location_at
at_loc l room = laid_is (l.0 + 1) _ room

-- what is said of a location, where it says something
module _ (o : KcasOp) (kind : o.on.kind ≡ LOCATION) (room : o.on.base + 1 ≤ MOST_LOCATIONS) where
  structure_said : structure_of o.on ≡ Some (object.Loc (record { 0 = o.on.base }) 0)
  unfolding structure_of location_at
  structure_said = cond-true _ _ _ (eq-eqb _ _ kind) ∙ laid_is (o.on.base + 1) _ room

  pub location_said : (r : Option LocOp) → r ≡ loc_said (record { 0 = o.on.base }) o.verb o.a o.b → IfSome r (λ p. Says o (op.Loc p))
  unfolding done_to
  location_said None e = tt
  location_said (Some p) e = by (o.verb == SAY) refl
    where
      by : (t : Bool) → (o.verb == SAY) ≡ t → Says o (op.Loc p)
      by true f = absurd (let g : Some p ≡ None = e ∙ ap (λ v. loc_said (record { 0 = o.on.base }) v o.a o.b) (eqb-true o.verb SAY f) in cc)
      by false f = by_structure o _ structure_said f ∙ ap (λ x. option_or (option_map call.Act (option_map op.Loc x)) (option_map call.WaitForRoom (waits_for_room (object.Loc (record { 0 = o.on.base }) 0) o.verb o.a o.b))) (sym e)

loc_says : (o : LocOp) → LocIsFit o → Says (loc_op_words o) (op.Loc o)
unfolding done_to
loc_says (loc.Get l) h = by_structure (loc_op_words (loc.Get l)) (object.Loc l 0) (at_loc l (omega (arith, h))) refl
loc_says (loc.Set l v) h = by_structure (loc_op_words (loc.Set l v)) (object.Loc l 0) (at_loc l (omega (arith, h))) refl
loc_says (loc.Exchange l v) h = by_structure (loc_op_words (loc.Exchange l v)) (object.Loc l 0) (at_loc l (omega (arith, h))) refl
loc_says (loc.Swap l m) h = by_structure (loc_op_words (loc.Swap l m)) (object.Loc l 0) (at_loc l (omega (arith, h))) refl
loc_says (loc.Cas l before after) h = by_structure (loc_op_words (loc.Cas l before after)) (object.Loc l 0) (at_loc l (omega (arith, h))) refl
loc_says (loc.FetchAdd l n) h = by_structure (loc_op_words (loc.FetchAdd l n)) (object.Loc l 0) (at_loc l (omega (arith, h))) refl
loc_says (loc.Incr l) h = by_structure (loc_op_words (loc.Incr l)) (object.Loc l 0) (at_loc l (omega (arith, h))) refl
loc_says (loc.Decr l) h = by_structure (loc_op_words (loc.Decr l)) (object.Loc l 0) (at_loc l (omega (arith, h))) refl
loc_says (loc.Update l f) h = by_structure (loc_op_words (loc.Update l f)) (object.Loc l 0) (at_loc l (omega (arith, h))) refl ∙ ap (λ g. option_or (option_map call.Act (option_map op.Loc (option_map (loc.Update l) g))) None) (fun_says f)
loc_says (loc.Modify l f) h = by_structure (loc_op_words (loc.Modify l f)) (object.Loc l 0) (at_loc l (omega (arith, h))) refl ∙ ap (λ g. option_or (option_map call.Act (option_map op.Loc (option_map (loc.Modify l) g))) None) (fun_says f)
loc_says (loc.Check l r n) h = by_structure (loc_op_words (loc.Check l r n)) (object.Loc l 0) (at_loc l (omega (arith, h))) refl ∙ ap (λ q. option_or (option_map call.Act (option_map op.Loc (option_map (λ x. loc.Check l x n) q))) None) (rel_says r)

-- ---- structures

stack_says : (s : Stack) (act : StackAct) → IsSized (object.Stack s) → Says (call_stack_words (object_words (object.Stack s)) act) (op.Stack (record { stack = s; act = act }))
unfolding done_to structure_of
stack_says s (stack.Push v) h = by_structure (call_stack_words (object_words (object.Stack s)) (stack.Push v)) (object.Stack s) (stack_laid s _ _ refl refl h.0 h.1) refl
stack_says s stack.Pop h = by_structure (call_stack_words (object_words (object.Stack s)) stack.Pop) (object.Stack s) (stack_laid s _ _ refl refl h.0 h.1) refl
stack_says s stack.PopWait h = by_structure (call_stack_words (object_words (object.Stack s)) stack.PopWait) (object.Stack s) (stack_laid s _ _ refl refl h.0 h.1) refl
stack_says s stack.Top h = by_structure (call_stack_words (object_words (object.Stack s)) stack.Top) (object.Stack s) (stack_laid s _ _ refl refl h.0 h.1) refl
stack_says s stack.Len h = by_structure (call_stack_words (object_words (object.Stack s)) stack.Len) (object.Stack s) (stack_laid s _ _ refl refl h.0 h.1) refl

queue_says : (q : Queue) (act : QueueAct) → IsSized (object.Queue q) → Says (call_queue_words (object_words (object.Queue q)) act) (op.Queue (record { queue = q; act = act }))
unfolding done_to structure_of
queue_says q (queue.Enq v) h = by_structure (call_queue_words (object_words (object.Queue q)) (queue.Enq v)) (object.Queue q) (queue_laid q _ _ refl refl h.1) refl
queue_says q queue.Deq h = by_structure (call_queue_words (object_words (object.Queue q)) queue.Deq) (object.Queue q) (queue_laid q _ _ refl refl h.1) refl
queue_says q queue.DeqWait h = by_structure (call_queue_words (object_words (object.Queue q)) queue.DeqWait) (object.Queue q) (queue_laid q _ _ refl refl h.1) refl
queue_says q queue.Front h = by_structure (call_queue_words (object_words (object.Queue q)) queue.Front) (object.Queue q) (queue_laid q _ _ refl refl h.1) refl
queue_says q queue.Len h = by_structure (call_queue_words (object_words (object.Queue q)) queue.Len) (object.Queue q) (queue_laid q _ _ refl refl h.1) refl

table_says : (t : Hash) (act : HashAct) → IsSized (object.Hash t) → Says (call_table_words (object_words (object.Hash t)) act) (op.Hash (record { hash = t; act = act }))
unfolding done_to structure_of
table_says t (table.Put k v) h = by_structure (call_table_words (object_words (object.Hash t)) (table.Put k v)) (object.Hash t) (table_laid t _ _ _ refl refl refl h.1 h.3) refl
table_says t (table.Find k) h = by_structure (call_table_words (object_words (object.Hash t)) (table.Find k)) (object.Hash t) (table_laid t _ _ _ refl refl refl h.1 h.3) refl
table_says t (table.Del k) h = by_structure (call_table_words (object_words (object.Hash t)) (table.Del k)) (object.Hash t) (table_laid t _ _ _ refl refl refl h.1 h.3) refl
table_says t table.Len h = by_structure (call_table_words (object_words (object.Hash t)) table.Len) (object.Hash t) (table_laid t _ _ _ refl refl refl h.1 h.3) refl

grow_says : (g : Grow) (act : GrowAct) → IsSized (object.Grow g) → Says (grow_words (object_words (object.Grow g)) act) (op.Grow (record { grow = g; act = act }))
unfolding done_to structure_of
grow_says g (grow.Put k v) h = by_structure (grow_words (object_words (object.Grow g)) (grow.Put k v)) (object.Grow g) (grow_laid g _ _ refl refl h.1) refl
grow_says g (grow.Find k) h = by_structure (grow_words (object_words (object.Grow g)) (grow.Find k)) (object.Grow g) (grow_laid g _ _ refl refl h.1) refl
grow_says g (grow.Del k) h = by_structure (grow_words (object_words (object.Grow g)) (grow.Del k)) (object.Grow g) (grow_laid g _ _ refl refl h.1) refl
grow_says g grow.Len h = by_structure (grow_words (object_words (object.Grow g)) grow.Len) (object.Grow g) (grow_laid g _ _ refl refl h.1) refl

cache_says : (x : Cache) (act : CacheAct) → IsSized (object.Cache x) → Says (call_cache_words (object_words (object.Cache x)) act) (op.Cache (record { cache = x; act = act }))
unfolding done_to structure_of
cache_says x (cache.CPut k v) h = by_structure (call_cache_words (object_words (object.Cache x)) (cache.CPut k v)) (object.Cache x) (cache_laid x _ _ _ refl refl refl h.1 h.3) refl
cache_says x (cache.CPutWait k v) h = by_structure (call_cache_words (object_words (object.Cache x)) (cache.CPutWait k v)) (object.Cache x) (cache_laid x _ _ _ refl refl refl h.1 h.3) refl
cache_says x (cache.CGet k) h = by_structure (call_cache_words (object_words (object.Cache x)) (cache.CGet k)) (object.Cache x) (cache_laid x _ _ _ refl refl refl h.1 h.3) refl
cache_says x (cache.CDel k) h = by_structure (call_cache_words (object_words (object.Cache x)) (cache.CDel k)) (object.Cache x) (cache_laid x _ _ _ refl refl refl h.1 h.3) refl
cache_says x cache.Len h = by_structure (call_cache_words (object_words (object.Cache x)) cache.Len) (object.Cache x) (cache_laid x _ _ _ refl refl refl h.1 h.3) refl

mvar_says : (x : Mvar) (act : MvarAct) → IsSized (object.Mvar x) → Says (call_mvar_words (object_words (object.Mvar x)) act) (op.Mvar (record { mvar = x; act = act }))
unfolding done_to structure_of
mvar_says x (mvar.Put v) h = by_structure (call_mvar_words (object_words (object.Mvar x)) (mvar.Put v)) (object.Mvar x) (mvar_laid x _ refl) refl
mvar_says x mvar.Take h = by_structure (call_mvar_words (object_words (object.Mvar x)) mvar.Take) (object.Mvar x) (mvar_laid x _ refl) refl
mvar_says x mvar.Peek h = by_structure (call_mvar_words (object_words (object.Mvar x)) mvar.Peek) (object.Mvar x) (mvar_laid x _ refl) refl

promise_says : (x : Promise) (act : PromiseAct) → IsSized (object.Promise x) → Says (call_promise_words (object_words (object.Promise x)) act) (op.Promise (record { promise = x; act = act }))
unfolding done_to structure_of
promise_says x (promise.Resolve v) h = by_structure (call_promise_words (object_words (object.Promise x)) (promise.Resolve v)) (object.Promise x) (promise_laid x _ refl) refl
promise_says x promise.Await h = by_structure (call_promise_words (object_words (object.Promise x)) promise.Await) (object.Promise x) (promise_laid x _ refl) refl
promise_says x promise.IsResolved h = by_structure (call_promise_words (object_words (object.Promise x)) promise.IsResolved) (object.Promise x) (promise_laid x _ refl) refl

accumulator_says : (x : Accumulator) (act : AccAct) → IsSized (object.Acc x) → Says (accumulator_words (object_words (object.Acc x)) act) (op.Acc (record { acc = x; act = act }))
unfolding done_to structure_of
accumulator_says x (acc.Bump cell v) h = by_structure (accumulator_words (object_words (object.Acc x)) (acc.Bump cell v)) (object.Acc x) (accumulator_laid x _ _ refl refl h.1) refl
accumulator_says x acc.Total h = by_structure (accumulator_words (object_words (object.Acc x)) acc.Total) (object.Acc x) (accumulator_laid x _ _ refl refl h.1) refl

pub op_says : (o : Op) → IsSayable o → Says (op_words o) o
op_says (op.Loc o) h = loc_says o h
op_says (op.Stack o) h = stack_says o.stack o.act h
op_says (op.Queue o) h = queue_says o.queue o.act h
op_says (op.Hash o) h = table_says o.hash o.act h
op_says (op.Grow o) h = grow_says o.grow o.act h
op_says (op.Cache o) h = cache_says o.cache o.act h
op_says (op.Mvar o) h = mvar_says o.mvar o.act h
op_says (op.Promise o) h = promise_says o.promise o.act h
op_says (op.Acc o) h = accumulator_says o.acc o.act h
op_says (op.Cancel c) h = absurd h

-- ---- those that wait for room

abbrev SaysToWait : Option KcasOp → Op → Type 0
SaysToWait w o = IfSome w (λ x. call_said x ≡ Some (call.WaitForRoom o))

stack_waits : (s : Stack) (act : StackAct) → IsSized (object.Stack s) → SaysToWait (waiting_words (op.Stack (record { stack = s; act = act }))) (op.Stack (record { stack = s; act = act }))
unfolding done_to structure_of
stack_waits s (stack.Push v) h = by_structure (call_words (object_words (object.Stack s)) PUSH_WAIT v 0) (object.Stack s) (stack_laid s _ _ refl refl h.0 h.1) refl
stack_waits s stack.Pop h = tt
stack_waits s stack.PopWait h = tt
stack_waits s stack.Top h = tt
stack_waits s stack.Len h = tt

queue_waits : (q : Queue) (act : QueueAct) → IsSized (object.Queue q) → SaysToWait (waiting_words (op.Queue (record { queue = q; act = act }))) (op.Queue (record { queue = q; act = act }))
unfolding done_to structure_of
queue_waits q (queue.Enq v) h = by_structure (call_words (object_words (object.Queue q)) ENQ_WAIT v 0) (object.Queue q) (queue_laid q _ _ refl refl h.1) refl
queue_waits q queue.Deq h = tt
queue_waits q queue.DeqWait h = tt
queue_waits q queue.Front h = tt
queue_waits q queue.Len h = tt

table_waits : (t : Hash) (act : HashAct) → IsSized (object.Hash t) → SaysToWait (waiting_words (op.Hash (record { hash = t; act = act }))) (op.Hash (record { hash = t; act = act }))
unfolding done_to structure_of
table_waits t (table.Put k v) h = by_structure (call_words (object_words (object.Hash t)) PUT_WAIT k v) (object.Hash t) (table_laid t _ _ _ refl refl refl h.1 h.3) refl
table_waits t (table.Find k) h = tt
table_waits t (table.Del k) h = tt
table_waits t table.Len h = tt

grow_waits : (g : Grow) (act : GrowAct) → IsSized (object.Grow g) → SaysToWait (waiting_words (op.Grow (record { grow = g; act = act }))) (op.Grow (record { grow = g; act = act }))
unfolding done_to structure_of
grow_waits g (grow.Put k v) h = by_structure (call_words (object_words (object.Grow g)) PUT_WAIT k v) (object.Grow g) (grow_laid g _ _ refl refl h.1) refl
grow_waits g (grow.Find k) h = tt
grow_waits g (grow.Del k) h = tt
grow_waits g grow.Len h = tt

pub op_waits : (o : Op) → IsSayable o → SaysToWait (waiting_words o) o
op_waits (op.Loc o) h = tt
op_waits (op.Stack o) h = stack_waits o.stack o.act h
op_waits (op.Queue o) h = queue_waits o.queue o.act h
op_waits (op.Mvar o) h = tt
op_waits (op.Promise o) h = tt
op_waits (op.Acc o) h = tt
op_waits (op.Hash o) h = table_waits o.hash o.act h
op_waits (op.Grow o) h = grow_waits o.grow o.act h
op_waits (op.Cache o) h = tt
op_waits (op.Cancel c) h = tt
