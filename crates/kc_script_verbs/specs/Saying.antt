-- How a line that says an operation is read: its tests in their order. Private to the parser and its proofs; what a line says
-- is `Says` of Canonical, what is wrong with it the first failing test of Fields.
use Rattle.std.specs.Prelude.{ℕ, suc, length, List, [], ◌∷◌, codes, Option, Some, Result, Ok, Err, if◌then◌else◌}
use Rattle.std.specs.Str.{bytes_eq}
use Rattle.kc_loc.specs.declared.operation.LocOp.{LocOp}
use Rattle.kc_model.specs.declared.footprint.Loc.{Loc}
use Rattle.kc_script_lines.specs.Tests.{◌>>=◌, counted, word_at, number_to, positive_to}
use Rattle.kc_script_lines.specs.declared.fault.Why.{Why}
use Rattle.kc_script_lines.specs.declared.fault.Why.TheVariants.{UnknownWord, WrongKind}
use Rattle.kc_loc.specs.declared.operation.LocOp.TheVariants as loc
use Rattle.kc_loc.specs.declared.kinds.Fun.{Fun}
use Rattle.kc_loc.specs.declared.kinds.Fun.TheVariants as fun
use Rattle.kc_loc.specs.declared.kinds.Rel.{Rel}
use Rattle.kc_loc.specs.declared.kinds.Rel.TheVariants as rel
use Rattle.kc_stack.specs.declared.operation.StackAct.{StackAct}
use Rattle.kc_stack.specs.declared.operation.StackAct.TheVariants as stack
use Rattle.kc_queue.specs.declared.operation.QueueAct.{QueueAct}
use Rattle.kc_queue.specs.declared.operation.QueueAct.TheVariants as queue
use Rattle.kc_grow.specs.declared.operation.GrowAct.{GrowAct}
use Rattle.kc_grow.specs.declared.operation.GrowAct.TheVariants as grow
use Rattle.kc_hash.specs.declared.operation.HashAct.{HashAct}
use Rattle.kc_hash.specs.declared.operation.HashAct.TheVariants as table
use Rattle.kc_cache.specs.declared.operation.CacheAct.{CacheAct}
use Rattle.kc_cache.specs.declared.operation.CacheAct.TheVariants as cache
use Rattle.kc_cells.specs.declared.mvar.MvarAct.{MvarAct}
use Rattle.kc_cells.specs.declared.mvar.MvarAct.TheVariants as mvar
use Rattle.kc_cells.specs.declared.promise.PromiseAct.{PromiseAct}
use Rattle.kc_cells.specs.declared.promise.PromiseAct.TheVariants as promise
use Rattle.kc_cells.specs.declared.accumulator.AccAct.{AccAct}
use Rattle.kc_cells.specs.declared.accumulator.AccAct.TheVariants as acc
use Rattle.kc_script_bundle.specs.declared.bundle.TheConstants.{MOST_THREADS}
use Rattle.kc_script_bundle.specs.declared.object.Object.{Object}
use Rattle.kc_script_bundle.specs.declared.object.Object.TheVariants as object
use Rattle.kc_script_bundle.specs.declared.operation.Op.{Op}
use Rattle.kc_script_bundle.specs.declared.operation.Op.TheVariants as op
use Rattle.kc_script_bundle.specs.Script.{Names}
use Rattle.kc_script_verbs.specs.declared.verb.LocWord.{LocWord}
use Rattle.kc_script_verbs.specs.declared.verb.LocWord.TheVariants as loc_verb
use Rattle.kc_script_verbs.specs.declared.verb.StackWord.{StackWord}
use Rattle.kc_script_verbs.specs.declared.verb.StackWord.TheVariants as stack_verb
use Rattle.kc_script_verbs.specs.declared.verb.QueueWord.{QueueWord}
use Rattle.kc_script_verbs.specs.declared.verb.QueueWord.TheVariants as queue_verb
use Rattle.kc_script_verbs.specs.declared.verb.TableWord.{TableWord}
use Rattle.kc_script_verbs.specs.declared.verb.TableWord.TheVariants as table_verb
use Rattle.kc_script_verbs.specs.declared.verb.CacheWord.{CacheWord}
use Rattle.kc_script_verbs.specs.declared.verb.CacheWord.TheVariants as cache_verb
use Rattle.kc_script_verbs.specs.declared.verb.MvarWord.{MvarWord}
use Rattle.kc_script_verbs.specs.declared.verb.MvarWord.TheVariants as mvar_verb
use Rattle.kc_script_verbs.specs.declared.verb.PromiseWord.{PromiseWord}
use Rattle.kc_script_verbs.specs.declared.verb.PromiseWord.TheVariants as promise_verb
use Rattle.kc_script_verbs.specs.declared.verb.AccWord.{AccWord}
use Rattle.kc_script_verbs.specs.declared.verb.AccWord.TheVariants as acc_verb
use Rattle.kc_script_verbs.specs.declared.named.FunWord.{FunWord}
use Rattle.kc_script_verbs.specs.declared.named.FunWord.TheVariants as named
use Rattle.kc_script_verbs.specs.declared.verb.ObjectVerb.{ObjectVerb}
use Rattle.kc_script_verbs.specs.declared.verb.ObjectVerb.TheVariants as object_verb
use Rattle.kc_script_verbs.specs.declared.verb.Verb.{Verb}
use Rattle.kc_script_verbs.specs.declared.verb.Verb.TheVariants as verb
use Rattle.kc_script_verbs.specs.declared.word.Word.{Word}
use Rattle.kc_script_verbs.specs.declared.word.Word.TheVariants as word
use Rattle.kc_script_verbs.specs.declared.objects.Table.{Table}
use Rattle.kc_script_verbs.specs.declared.objects.Table.TheVariants as tables
use Rattle.kc_script_verbs.specs.Fields.{loc_fields, stack_fields, queue_fields, table_fields, cache_fields, mvar_fields, promise_fields, acc_fields, object_fields, verb_fields}
use Rattle.kc_script_verbs.specs.Objects.{used, as_loc, as_stack, as_queue, as_table, as_cache, as_mvar, as_promise, as_acc}
use Rattle.kc_script_verbs.specs.Words.{word_of}
use Rattle.kc_script_verbs.specs.declared.saying.TheConstants.{LIVE}

-- ---- how many words stand behind the first

abbrev pub loc_arity : LocWord → ℕ
loc_arity w = suc (length (loc_fields w))

abbrev pub stack_arity : StackWord → ℕ
stack_arity w = suc (length (stack_fields w))

abbrev pub queue_arity : QueueWord → ℕ
queue_arity w = suc (length (queue_fields w))

abbrev pub table_arity : TableWord → ℕ
table_arity w = suc (length (table_fields w))

abbrev pub cache_arity : CacheWord → ℕ
cache_arity w = suc (length (cache_fields w))

abbrev pub mvar_arity : MvarWord → ℕ
mvar_arity w = suc (length (mvar_fields w))

abbrev pub promise_arity : PromiseWord → ℕ
promise_arity w = suc (length (promise_fields w))

abbrev pub acc_arity : AccWord → ℕ
acc_arity w = suc (length (acc_fields w))

abbrev pub object_arity : ObjectVerb → ℕ
object_arity v = length (object_fields v)

abbrev pub arity : Verb → ℕ
arity v = length (verb_fields v)

-- ---- numbers, functions and relations

-- a number of 32 bits
unfoldable pub value_said_at : List (List ℕ) → ℕ → Result ℕ Why
value_said_at args i = number_to 4294967295 (word_at args i)

-- the function that a word names
unfoldable pub fun_named : List ℕ → Result FunWord Why
fun_named w =
    if bytes_eq w (codes "add") then Ok named.Add
    else (if bytes_eq w (codes "max") then Ok named.Max
    else (if bytes_eq w (codes "min") then Ok named.Min
    else (if bytes_eq w (codes "and") then Ok named.And
    else (if bytes_eq w (codes "or") then Ok named.Or
    else (if bytes_eq w (codes "xor") then Ok named.Xor
    else Err UnknownWord)))))

-- the function with its number
abbrev pub fun_of : FunWord → ℕ → Fun
fun_of named.Add n = fun.Add n
fun_of named.Max n = fun.Max n
fun_of named.Min n = fun.Min n
fun_of named.And n = fun.And n
fun_of named.Or n = fun.Or n
fun_of named.Xor n = fun.Xor n

-- F V
unfoldable pub fun_at : List (List ℕ) → Result Fun Why
fun_at args = do
  name ← fun_named (word_at args 1)
  n ← value_said_at args 2
  Ok (fun_of name n)

-- the relation that a word names
unfoldable pub rel_named : List ℕ → Result Rel Why
rel_named w =
    if bytes_eq w (codes "eq") then Ok rel.Eq
    else (if bytes_eq w (codes "ne") then Ok rel.Ne
    else (if bytes_eq w (codes "lt") then Ok rel.Lt
    else (if bytes_eq w (codes "le") then Ok rel.Le
    else (if bytes_eq w (codes "gt") then Ok rel.Gt
    else (if bytes_eq w (codes "ge") then Ok rel.Ge
    else Err UnknownWord)))))

-- the location that a word names
unfoldable pub loc_named : Names → List ℕ → Result Loc Why
loc_named names name = used names name >>= as_loc

-- ---- what is done to an object, by the words behind its name

unfoldable pub loc_op : Names → LocWord → Loc → List (List ℕ) → Result LocOp Why
loc_op names loc_verb.Get at args = Ok (loc.Get at)
loc_op names loc_verb.Set at args = value_said_at args 1 >>= λ v. Ok (loc.Set at v)
loc_op names loc_verb.Exchange at args = value_said_at args 1 >>= λ v. Ok (loc.Exchange at v)
loc_op names loc_verb.Swap at args = loc_named names (word_at args 1) >>= λ b. Ok (loc.Swap at b)
loc_op names loc_verb.Cas at args = value_said_at args 1 >>= λ v. value_said_at args 2 >>= λ w. Ok (loc.Cas at v w)
loc_op names loc_verb.FetchAdd at args = value_said_at args 1 >>= λ v. Ok (loc.FetchAdd at v)
loc_op names loc_verb.Incr at args = Ok (loc.Incr at)
loc_op names loc_verb.Decr at args = Ok (loc.Decr at)
loc_op names loc_verb.Update at args = fun_at args >>= λ f. Ok (loc.Update at f)
loc_op names loc_verb.Modify at args = fun_at args >>= λ f. Ok (loc.Modify at f)
loc_op names loc_verb.Check at args = rel_named (word_at args 1) >>= λ r. value_said_at args 2 >>= λ v. Ok (loc.Check at r v)

unfoldable pub stack_act : StackWord → List (List ℕ) → Result StackAct Why
stack_act stack_verb.Push args = value_said_at args 1 >>= λ v. Ok (stack.Push v)
stack_act stack_verb.Pop args = Ok stack.Pop
stack_act stack_verb.PopWait args = Ok stack.PopWait
stack_act stack_verb.Top args = Ok stack.Top

unfoldable pub queue_act : QueueWord → List (List ℕ) → Result QueueAct Why
queue_act queue_verb.Enq args = value_said_at args 1 >>= λ v. Ok (queue.Enq v)
queue_act queue_verb.Deq args = Ok queue.Deq
queue_act queue_verb.DeqWait args = Ok queue.DeqWait
queue_act queue_verb.Front args = Ok queue.Front

unfoldable pub table_act : TableWord → List (List ℕ) → Result HashAct Why
table_act table_verb.Put args = value_said_at args 1 >>= λ k. value_said_at args 2 >>= λ v. Ok (table.Put k v)
table_act table_verb.Find args = value_said_at args 1 >>= λ k. Ok (table.Find k)
table_act table_verb.Del args = value_said_at args 1 >>= λ k. Ok (table.Del k)

-- the same on a table that grows
abbrev pub grow_act : HashAct → GrowAct
grow_act (table.Put k v) = grow.Put k v
grow_act (table.Find k) = grow.Find k
grow_act (table.Del k) = grow.Del k
grow_act table.Len = grow.Len

-- what is done to a table of either kind
abbrev pub table_op : Table → HashAct → Op
table_op (tables.Hash h) a = op.Hash (record { hash = h; act = a })
table_op (tables.Grow g) a = op.Grow (record { grow = g; act = grow_act a })

unfoldable pub cache_act : CacheWord → List (List ℕ) → Result CacheAct Why
cache_act cache_verb.CPut args = value_said_at args 1 >>= λ k. value_said_at args 2 >>= λ v. Ok (cache.CPut k v)
cache_act cache_verb.CPutWait args = value_said_at args 1 >>= λ k. value_said_at args 2 >>= λ v. Ok (cache.CPutWait k v)
cache_act cache_verb.CGet args = value_said_at args 1 >>= λ k. Ok (cache.CGet k)
cache_act cache_verb.CDel args = value_said_at args 1 >>= λ k. Ok (cache.CDel k)

unfoldable pub mvar_act : MvarWord → List (List ℕ) → Result MvarAct Why
mvar_act mvar_verb.Put args = value_said_at args 1 >>= λ v. Ok (mvar.Put v)
mvar_act mvar_verb.Take args = Ok mvar.Take
mvar_act mvar_verb.Peek args = Ok mvar.Peek

unfoldable pub promise_act : PromiseWord → List (List ℕ) → Result PromiseAct Why
promise_act promise_verb.Resolve args = value_said_at args 1 >>= λ v. Ok (promise.Resolve v)
promise_act promise_verb.Await args = Ok promise.Await
promise_act promise_verb.IsResolved args = Ok promise.IsResolved

-- A thread adds to the cell of its number; threads are numbered from 0 here, and the numbers of cells go round.
unfoldable pub acc_act : ℕ → AccWord → List (List ℕ) → Result AccAct Why
acc_act thread acc_verb.Bump args = value_said_at args 1 >>= λ n. Ok (acc.Bump thread n)
acc_act thread acc_verb.Total args = Ok acc.Total

-- the kinds that have a length
abbrev pub length_of : Object → Result Op Why
length_of (object.Stack s) = Ok (op.Stack (record { stack = s; act = stack.Len }))
length_of (object.Queue q) = Ok (op.Queue (record { queue = q; act = queue.Len }))
length_of (object.Hash h) = Ok (op.Hash (record { hash = h; act = table.Len }))
length_of (object.Grow g) = Ok (op.Grow (record { grow = g; act = grow.Len }))
length_of (object.Cache c) = Ok (op.Cache (record { cache = c; act = cache.Len }))
length_of _ = Err WrongKind

-- ---- an operation

-- what a command does to the object of its first name
unfoldable pub op_on : ℕ → Names → ObjectVerb → Object → List (List ℕ) → Result Op Why
op_on thread names (object_verb.OnLoc w) o args = as_loc o >>= λ at. loc_op names w at args >>= λ x. Ok (op.Loc x)
op_on thread names (object_verb.OnStack w) o args = as_stack o >>= λ s. stack_act w args >>= λ a. Ok (op.Stack (record { stack = s; act = a }))
op_on thread names (object_verb.OnQueue w) o args = as_queue o >>= λ q. queue_act w args >>= λ a. Ok (op.Queue (record { queue = q; act = a }))
op_on thread names (object_verb.OnTable w) o args = as_table o >>= λ t. table_act w args >>= λ a. Ok (table_op t a)
op_on thread names (object_verb.OnCache w) o args = as_cache o >>= λ c. cache_act w args >>= λ a. Ok (op.Cache (record { cache = c; act = a }))
op_on thread names (object_verb.OnMvar w) o args = as_mvar o >>= λ x. mvar_act w args >>= λ a. Ok (op.Mvar (record { mvar = x; act = a }))
op_on thread names (object_verb.OnPromise w) o args = as_promise o >>= λ p. promise_act w args >>= λ a. Ok (op.Promise (record { promise = p; act = a }))
op_on thread names (object_verb.OnAcc w) o args = as_acc o >>= λ x. acc_act thread w args >>= λ a. Ok (op.Acc (record { acc = x; act = a }))
op_on thread names object_verb.Len o args = length_of o

-- the cancel of a thread by its number
abbrev pub cancel_of : List ℕ → Result Op Why
cancel_of word = positive_to MOST_THREADS word >>= λ n. Ok (op.Cancel (record { live = LIVE; thread = n }))

-- what a command says with as many words as it has
abbrev pub op_of : ℕ → Names → Verb → List (List ℕ) → Result Op Why
op_of thread names (verb.On v) args = used names (word_at args 0) >>= λ o. op_on thread names v o args
op_of thread names verb.Cancel args = cancel_of (word_at args 0)

-- the operation that a line says in a thread
unfoldable pub say : ℕ → Names → Verb → List (List ℕ) → Result Op Why
say thread names v args = counted (arity v) args >>= λ all. op_of thread names v args

-- a word that begins a command
abbrev pub said_by : ℕ → Names → Option Word → List (List ℕ) → Result Op Why
said_by thread names (Some (word.Say v)) args = say thread names v args
said_by thread names _ args = Err UnknownWord

-- the operation that a line says, with its first word
abbrev pub said : ℕ → Names → List (List ℕ) → Result Op Why
said thread names [] = Err UnknownWord
said thread names (first ∷ args) = said_by thread names (word_of first) args
