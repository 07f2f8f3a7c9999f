-- The operation that a line says is on an object that has a name.
use Rattle.std.proofs.Common.{◌≡◌, ℕ, Bool, true, false, cond, List, [], ◌∷◌, Option, Some, None, Result, Ok, refl, sym, ap, subst, inl, inr}
use Rattle.std.specs.Str.{bytes_eq}
use Rattle.kc_loc.specs.declared.operation.LocOp.{LocOp}
use Rattle.kc_model.specs.declared.footprint.Loc.{Loc}
use Rattle.kc_script_lines.proofs.Faults.{positive_value}
use Rattle.kc_script_lines.proofs.Given.{given, bind_ok, ok_is, found_ok, when_some}
use Rattle.kc_script_lines.specs.Tests.{◌>>=◌, counted, word_at, positive_to}
use Rattle.kc_script_lines.specs.Words.{is_name}
use Rattle.kc_script_lines.specs.declared.fault.Why.{Why}
use Rattle.kc_script_lines.specs.declared.fault.Why.TheVariants.{UnknownName}
use Rattle.kc_loc.specs.declared.operation.LocOp.TheVariants as loc
use Rattle.kc_cache.specs.declared.cache.Cache.{Cache}
use Rattle.kc_cache.specs.declared.operation.CacheAct.{CacheAct}
use Rattle.kc_cells.specs.declared.accumulator.AccAct.{AccAct}
use Rattle.kc_cells.specs.declared.accumulator.Accumulator.{Accumulator}
use Rattle.kc_cells.specs.declared.mvar.Mvar.{Mvar}
use Rattle.kc_cells.specs.declared.mvar.MvarAct.{MvarAct}
use Rattle.kc_cells.specs.declared.promise.Promise.{Promise}
use Rattle.kc_cells.specs.declared.promise.PromiseAct.{PromiseAct}
use Rattle.kc_hash.specs.declared.operation.HashAct.{HashAct}
use Rattle.kc_loc.specs.declared.kinds.Rel.{Rel}
use Rattle.kc_queue.specs.declared.operation.QueueAct.{QueueAct}
use Rattle.kc_queue.specs.declared.queue.Queue.{Queue}
use Rattle.kc_script_bundle.specs.declared.bundle.TheConstants.{MOST_THREADS}
use Rattle.kc_script_bundle.specs.declared.object.Object.{Object}
use Rattle.kc_stack.specs.declared.operation.StackAct.{StackAct}
use Rattle.kc_stack.specs.declared.stack.Stack.{Stack}
use Rattle.kc_script_bundle.specs.declared.object.Object.TheVariants as object
use Rattle.kc_script_bundle.specs.declared.operation.Op.{Op}
use Rattle.kc_script_bundle.specs.declared.operation.Op.TheVariants as op
use Rattle.kc_script_bundle.specs.On.{IsLocation, LocIsOn, IsOn}
use Rattle.kc_script_bundle.specs.Script.{Names, HasObject}
use Rattle.kc_script_verbs.specs.declared.verb.LocWord.{LocWord}
use Rattle.kc_script_verbs.specs.declared.verb.LocWord.TheVariants as verb_on
use Rattle.kc_script_verbs.specs.declared.verb.ObjectVerb.{ObjectVerb}
use Rattle.kc_script_verbs.specs.declared.verb.ObjectVerb.TheVariants as object_verb
use Rattle.kc_script_verbs.specs.declared.verb.Verb.{Verb}
use Rattle.kc_script_verbs.specs.declared.verb.Verb.TheVariants as verb
use Rattle.kc_script_verbs.specs.declared.word.Word.{Word}
use Rattle.kc_script_verbs.specs.declared.word.Word.TheVariants as word
use Rattle.kc_script_verbs.specs.declared.objects.Table.{Table}
use Rattle.kc_script_verbs.specs.declared.objects.Table.TheVariants as tables
use Rattle.kc_script_verbs.specs.Objects.{object_of, used, as_loc, as_stack, as_queue, as_table, as_cache, as_mvar, as_promise, as_acc}
use Rattle.kc_script_verbs.specs.Saying.{arity, value_said_at, fun_at, rel_named, loc_named, loc_op, stack_act, queue_act, table_act, cache_act, mvar_act, promise_act, acc_act, table_op, length_of, op_on, cancel_of, op_of, say, said_by, said}
use Rattle.kc_script_verbs.specs.Words.{word_of}
use Rattle.kc_script_verbs.specs.declared.saying.TheConstants.{LIVE}

-- ---- names

-- the object of a name has a name
has_object : (names : Names) (w : List ℕ) (o : Object) → object_of names w ≡ Some o → HasObject names o
has_object [] w o e = absurd cc
has_object (entry ∷ names) w o e = here (bytes_eq w entry.0) e (has_object names w o) where
  here : (b : Bool) → cond b (Some entry.1) (object_of names w) ≡ Some o → (object_of names w ≡ Some o → HasObject names o) → HasObject (entry ∷ names) o
  here true f more = inl cc
  here false f more = inr (more f)

-- a used name's object
pub used_has : (names : Names) (w : List ℕ) (o : Object) → used names w ≡ Ok o → HasObject names o
unfolding used
used_has names w o e = has_object names w o (when_some (is_name w) (object_of names w) o (found_ok _ UnknownName o e))

-- ---- objects by their kind

pub stack_is : (o : Object) (x : Stack) → as_stack o ≡ Ok x → object.Stack x ≡ o
stack_is (object.Loc at value) x e = absurd cc
stack_is (object.Stack a) x e = ap (λ y. object.Stack y) (sym (ok_is _ _ e))
stack_is (object.Queue a) x e = absurd cc
stack_is (object.Mvar a) x e = absurd cc
stack_is (object.Promise a) x e = absurd cc
stack_is (object.Acc a) x e = absurd cc
stack_is (object.Hash a) x e = absurd cc
stack_is (object.Grow a) x e = absurd cc
stack_is (object.Cache a) x e = absurd cc

pub queue_is : (o : Object) (x : Queue) → as_queue o ≡ Ok x → object.Queue x ≡ o
queue_is (object.Loc at value) x e = absurd cc
queue_is (object.Stack a) x e = absurd cc
queue_is (object.Queue a) x e = ap (λ y. object.Queue y) (sym (ok_is _ _ e))
queue_is (object.Mvar a) x e = absurd cc
queue_is (object.Promise a) x e = absurd cc
queue_is (object.Acc a) x e = absurd cc
queue_is (object.Hash a) x e = absurd cc
queue_is (object.Grow a) x e = absurd cc
queue_is (object.Cache a) x e = absurd cc

-- a table of either kind
abbrev pub table_object : Table → Object
table_object (tables.Hash h) = object.Hash h
table_object (tables.Grow g) = object.Grow g

pub table_is : (o : Object) (x : Table) → as_table o ≡ Ok x → table_object x ≡ o
table_is (object.Loc at value) x e = absurd cc
table_is (object.Stack a) x e = absurd cc
table_is (object.Queue a) x e = absurd cc
table_is (object.Mvar a) x e = absurd cc
table_is (object.Promise a) x e = absurd cc
table_is (object.Acc a) x e = absurd cc
table_is (object.Hash a) x e = ap table_object (sym (ok_is _ _ e))
table_is (object.Grow a) x e = ap table_object (sym (ok_is _ _ e))
table_is (object.Cache a) x e = absurd cc

pub cache_is : (o : Object) (x : Cache) → as_cache o ≡ Ok x → object.Cache x ≡ o
cache_is (object.Loc at value) x e = absurd cc
cache_is (object.Stack a) x e = absurd cc
cache_is (object.Queue a) x e = absurd cc
cache_is (object.Mvar a) x e = absurd cc
cache_is (object.Promise a) x e = absurd cc
cache_is (object.Acc a) x e = absurd cc
cache_is (object.Hash a) x e = absurd cc
cache_is (object.Grow a) x e = absurd cc
cache_is (object.Cache a) x e = ap (λ y. object.Cache y) (sym (ok_is _ _ e))

pub mvar_is : (o : Object) (x : Mvar) → as_mvar o ≡ Ok x → object.Mvar x ≡ o
mvar_is (object.Loc at value) x e = absurd cc
mvar_is (object.Stack a) x e = absurd cc
mvar_is (object.Queue a) x e = absurd cc
mvar_is (object.Mvar a) x e = ap (λ y. object.Mvar y) (sym (ok_is _ _ e))
mvar_is (object.Promise a) x e = absurd cc
mvar_is (object.Acc a) x e = absurd cc
mvar_is (object.Hash a) x e = absurd cc
mvar_is (object.Grow a) x e = absurd cc
mvar_is (object.Cache a) x e = absurd cc

pub promise_is : (o : Object) (x : Promise) → as_promise o ≡ Ok x → object.Promise x ≡ o
promise_is (object.Loc at value) x e = absurd cc
promise_is (object.Stack a) x e = absurd cc
promise_is (object.Queue a) x e = absurd cc
promise_is (object.Mvar a) x e = absurd cc
promise_is (object.Promise a) x e = ap (λ y. object.Promise y) (sym (ok_is _ _ e))
promise_is (object.Acc a) x e = absurd cc
promise_is (object.Hash a) x e = absurd cc
promise_is (object.Grow a) x e = absurd cc
promise_is (object.Cache a) x e = absurd cc

pub acc_is : (o : Object) (x : Accumulator) → as_acc o ≡ Ok x → object.Acc x ≡ o
acc_is (object.Loc at value) x e = absurd cc
acc_is (object.Stack a) x e = absurd cc
acc_is (object.Queue a) x e = absurd cc
acc_is (object.Mvar a) x e = absurd cc
acc_is (object.Promise a) x e = absurd cc
acc_is (object.Acc a) x e = ap (λ y. object.Acc y) (sym (ok_is _ _ e))
acc_is (object.Hash a) x e = absurd cc
acc_is (object.Grow a) x e = absurd cc
acc_is (object.Cache a) x e = absurd cc

-- a location that has a name
location_is : (names : Names) (o : Object) (at : Loc) → as_loc o ≡ Ok at → HasObject names o → IsLocation names at
location_is names (object.Loc at value) l e h = (value, subst (λ x. HasObject names (object.Loc x value)) (ok_is _ _ e) h)
location_is names (object.Stack a) l e h = absurd cc
location_is names (object.Queue a) l e h = absurd cc
location_is names (object.Mvar a) l e h = absurd cc
location_is names (object.Promise a) l e h = absurd cc
location_is names (object.Acc a) l e h = absurd cc
location_is names (object.Hash a) l e h = absurd cc
location_is names (object.Grow a) l e h = absurd cc
location_is names (object.Cache a) l e h = absurd cc

-- the location that a word names
named_location : (names : Names) (w : List ℕ) (at : Loc) → loc_named names w ≡ Ok at → IsLocation names at
unfolding loc_named
named_location names w at e =
    let a = bind_ok (used names w) as_loc at e in
    location_is names a.0 at a.2 (used_has names w a.0 a.1)

-- ---- commands on locations

-- an operation that is made of one part
one_on : {A : Type 0} (names : Names) (part : Result A Why) (made : A → LocOp) (x : LocOp) → (part >>= λ a. given (made a)) ≡ Ok x → ((a : A) → part ≡ Ok a → LocIsOn names (made a)) → LocIsOn names x
one_on names part made x e on =
    let a = bind_ok part (λ a. given (made a)) x e in
    subst (LocIsOn names) (ok_is _ _ a.2) (on a.0 a.1)

-- an operation that is made of two parts
two_on : {A B : Type 0} (names : Names) (part : Result A Why) (other : Result B Why) (made : A → B → LocOp) (x : LocOp) → (part >>= λ a. other >>= λ b. given (made a b)) ≡ Ok x → ((a : A) (b : B) → LocIsOn names (made a b)) → LocIsOn names x
two_on names part other made x e on =
    let a = bind_ok part (λ a. other >>= λ b. given (made a b)) x e in
    one_on names other (made a.0) x a.2 (λ b f. on a.0 b)

loc_op_on : (names : Names) (w : LocWord) (at : Loc) (args : List (List ℕ)) (x : LocOp) → loc_op names w at args ≡ Ok x → IsLocation names at → LocIsOn names x
unfolding loc_op
loc_op_on names verb_on.Get at args x e h = subst (LocIsOn names) (ok_is _ _ e) h
loc_op_on names verb_on.Set at args x e h = one_on names (value_said_at args 1) (λ a. loc.Set at a) x e (λ a f. h)
loc_op_on names verb_on.Exchange at args x e h = one_on names (value_said_at args 1) (λ a. loc.Exchange at a) x e (λ a f. h)
loc_op_on names verb_on.Swap at args x e h = one_on names (loc_named names (word_at args 1)) (λ b. loc.Swap at b) x e (λ b f. (h, named_location names (word_at args 1) b f))
loc_op_on names verb_on.Cas at args x e h = two_on names (value_said_at args 1) (value_said_at args 2) (λ (v w : ℕ). loc.Cas at v w) x e (λ v w. h)
loc_op_on names verb_on.FetchAdd at args x e h = one_on names (value_said_at args 1) (λ a. loc.FetchAdd at a) x e (λ a f. h)
loc_op_on names verb_on.Incr at args x e h = subst (LocIsOn names) (ok_is _ _ e) h
loc_op_on names verb_on.Decr at args x e h = subst (LocIsOn names) (ok_is _ _ e) h
loc_op_on names verb_on.Update at args x e h = one_on names (fun_at args) (λ a. loc.Update at a) x e (λ a f. h)
loc_op_on names verb_on.Modify at args x e h = one_on names (fun_at args) (λ a. loc.Modify at a) x e (λ a f. h)
loc_op_on names verb_on.Check at args x e h = two_on names (rel_named (word_at args 1)) (value_said_at args 2) (λ (v : Rel) (w : ℕ). loc.Check at v w) x e (λ v w. h)

-- ---- commands on an object of a kind

kind_on : {K A : Type 0} (names : Names) (o : Object) (kinded : Result K Why) (act : Result A Why) (made : K → A → Op) (kind : K → Object) (x : Op) → (kinded >>= λ k. act >>= λ a. given (made k a)) ≡ Ok x → ((k : K) → kinded ≡ Ok k → kind k ≡ o) → ((k : K) (a : A) → HasObject names (kind k) → IsOn names (made k a)) → HasObject names o → IsOn names x
kind_on names o kinded act made kind x e is on h =
    let a = bind_ok kinded (λ k. act >>= λ a. given (made k a)) x e in
    let b = bind_ok act (λ c. given (made a.0 c)) x a.2 in
    subst (IsOn names) (ok_is _ _ b.2) (on a.0 b.0 (subst (HasObject names) (sym (is a.0 a.1)) h))

table_on : (names : Names) (k : Table) (a : HashAct) → HasObject names (table_object k) → IsOn names (table_op k a)
table_on names (tables.Hash x) a h = h
table_on names (tables.Grow x) a h = h

length_on : (names : Names) (o : Object) (x : Op) → length_of o ≡ Ok x → HasObject names o → IsOn names x
length_on names (object.Loc at value) x e h = absurd cc
length_on names (object.Stack a) x e h = subst (IsOn names) (ok_is _ _ e) h
length_on names (object.Queue a) x e h = subst (IsOn names) (ok_is _ _ e) h
length_on names (object.Mvar a) x e h = absurd cc
length_on names (object.Promise a) x e h = absurd cc
length_on names (object.Acc a) x e h = absurd cc
length_on names (object.Hash a) x e h = subst (IsOn names) (ok_is _ _ e) h
length_on names (object.Grow a) x e h = subst (IsOn names) (ok_is _ _ e) h
length_on names (object.Cache a) x e h = subst (IsOn names) (ok_is _ _ e) h

op_on_on : (thread : ℕ) (names : Names) (v : ObjectVerb) (o : Object) (args : List (List ℕ)) (x : Op) → op_on thread names v o args ≡ Ok x → HasObject names o → IsOn names x
unfolding op_on
op_on_on thread names (object_verb.OnLoc w) o args x e h =
    let a = bind_ok (as_loc o) (λ at. loc_op names w at args >>= λ y. given (op.Loc y)) x e in
    let b = bind_ok (loc_op names w a.0 args) (λ y. given (op.Loc y)) x a.2 in
    subst (IsOn names) (ok_is _ _ b.2) (loc_op_on names w a.0 args b.0 b.1 (location_is names o a.0 a.1 h))
op_on_on thread names (object_verb.OnStack w) o args x e h = kind_on names o (as_stack o) (stack_act w args) (λ (k : Stack) (a : StackAct). op.Stack (record { stack = k; act = a })) (λ k. object.Stack k) x e (stack_is o) (λ k a g. g) h
op_on_on thread names (object_verb.OnQueue w) o args x e h = kind_on names o (as_queue o) (queue_act w args) (λ (k : Queue) (a : QueueAct). op.Queue (record { queue = k; act = a })) (λ k. object.Queue k) x e (queue_is o) (λ k a g. g) h
op_on_on thread names (object_verb.OnTable w) o args x e h = kind_on names o (as_table o) (table_act w args) table_op table_object x e (table_is o) (table_on names) h
op_on_on thread names (object_verb.OnCache w) o args x e h = kind_on names o (as_cache o) (cache_act w args) (λ (k : Cache) (a : CacheAct). op.Cache (record { cache = k; act = a })) (λ k. object.Cache k) x e (cache_is o) (λ k a g. g) h
op_on_on thread names (object_verb.OnMvar w) o args x e h = kind_on names o (as_mvar o) (mvar_act w args) (λ (k : Mvar) (a : MvarAct). op.Mvar (record { mvar = k; act = a })) (λ k. object.Mvar k) x e (mvar_is o) (λ k a g. g) h
op_on_on thread names (object_verb.OnPromise w) o args x e h = kind_on names o (as_promise o) (promise_act w args) (λ (k : Promise) (a : PromiseAct). op.Promise (record { promise = k; act = a })) (λ k. object.Promise k) x e (promise_is o) (λ k a g. g) h
op_on_on thread names (object_verb.OnAcc w) o args x e h = kind_on names o (as_acc o) (acc_act thread w args) (λ (k : Accumulator) (a : AccAct). op.Acc (record { acc = k; act = a })) (λ k. object.Acc k) x e (acc_is o) (λ k a g. g) h
op_on_on thread names object_verb.Len o args x e h = length_on names o x e h

cancel_on : (names : Names) (word : List ℕ) (x : Op) → cancel_of word ≡ Ok x → IsOn names x
cancel_on names word x e =
    let a = bind_ok (positive_to MOST_THREADS word) (λ n. given (op.Cancel (record { live = LIVE; thread = n }))) x e in
    let v = positive_value MOST_THREADS word a.0 a.1 in
    subst (IsOn names) (ok_is _ _ a.2) (refl, (v.1, v.2))

op_of_on : (thread : ℕ) (names : Names) (v : Verb) (args : List (List ℕ)) (x : Op) → op_of thread names v args ≡ Ok x → IsOn names x
op_of_on thread names (verb.On v) args x e =
    let a = bind_ok (used names (word_at args 0)) (λ o. op_on thread names v o args) x e in
    op_on_on thread names v a.0 args x a.2 (used_has names (word_at args 0) a.0 a.1)
op_of_on thread names verb.Cancel args x e = cancel_on names (word_at args 0) x e

-- the operation that a line says
pub say_on : (thread : ℕ) (names : Names) (v : Verb) (args : List (List ℕ)) (x : Op) → say thread names v args ≡ Ok x → IsOn names x
unfolding say
say_on thread names v args x e =
    let a = bind_ok (counted (arity v) args) (λ all. op_of thread names v args) x e in
    op_of_on thread names v args x a.2

said_by_on : (thread : ℕ) (names : Names) (w : Option Word) (args : List (List ℕ)) (x : Op) → said_by thread names w args ≡ Ok x → IsOn names x
said_by_on thread names None args x e = absurd cc
said_by_on thread names (Some word.Thread) args x e = absurd cc
said_by_on thread names (Some word.Atomic) args x e = absurd cc
said_by_on thread names (Some word.Or) args x e = absurd cc
said_by_on thread names (Some word.End) args x e = absurd cc
said_by_on thread names (Some (word.Declare k)) args x e = absurd cc
said_by_on thread names (Some (word.Say v)) args x e = say_on thread names v args x e

-- the operation that a line says, with its first word
pub said_on : (thread : ℕ) (names : Names) (line : List (List ℕ)) (x : Op) → said thread names line ≡ Ok x → IsOn names x
said_on thread names [] x e = absurd cc
said_on thread names (first ∷ args) x e = said_by_on thread names (word_of first) args x e
