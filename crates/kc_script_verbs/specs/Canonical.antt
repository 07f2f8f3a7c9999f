-- The words that say an operation, and those that declare an object: a row for each.
use Rattle.std.specs.Prelude.{◌≡◌, ℕ, ◌≤◌, true, List, [], ◌∷◌, codes, Some, None}
use Rattle.kc_loc.specs.declared.operation.LocOp.{LocOp}
use Rattle.kc_model.specs.declared.footprint.Loc.{Loc}
use Rattle.kc_script_lines.specs.Words.{is_name, is_numeral, value_on}
use Rattle.kc_loc.specs.declared.operation.LocOp.TheVariants as loc
use Rattle.kc_loc.specs.declared.kinds.Fun.{Fun}
use Rattle.kc_loc.specs.declared.kinds.Fun.TheVariants as fun
use Rattle.kc_loc.specs.declared.kinds.Rel.{Rel}
use Rattle.kc_loc.specs.declared.kinds.Rel.TheVariants as rel
use Rattle.kc_stack.specs.declared.operation.StackAct.{StackAct}
use Rattle.kc_stack.specs.declared.stack.Stack.{Stack}
use Rattle.kc_stack.specs.declared.operation.StackAct.TheVariants as stack
use Rattle.kc_queue.specs.declared.operation.QueueAct.{QueueAct}
use Rattle.kc_queue.specs.declared.queue.Queue.{Queue}
use Rattle.kc_queue.specs.declared.operation.QueueAct.TheVariants as queue
use Rattle.kc_grow.specs.declared.operation.GrowAct.{GrowAct}
use Rattle.kc_grow.specs.declared.operation.GrowAct.TheVariants as grow
use Rattle.kc_hash.specs.declared.operation.HashAct.{HashAct}
use Rattle.kc_hash.specs.declared.operation.HashAct.TheVariants as table
use Rattle.kc_cache.specs.declared.cache.Cache.{Cache}
use Rattle.kc_cache.specs.declared.operation.CacheAct.{CacheAct}
use Rattle.kc_cache.specs.declared.operation.CacheAct.TheVariants as cache
use Rattle.kc_cells.specs.declared.mvar.Mvar.{Mvar}
use Rattle.kc_cells.specs.declared.mvar.MvarAct.{MvarAct}
use Rattle.kc_cells.specs.declared.mvar.MvarAct.TheVariants as mvar
use Rattle.kc_cells.specs.declared.promise.Promise.{Promise}
use Rattle.kc_cells.specs.declared.promise.PromiseAct.{PromiseAct}
use Rattle.kc_cells.specs.declared.promise.PromiseAct.TheVariants as promise
use Rattle.kc_cells.specs.declared.accumulator.AccAct.{AccAct}
use Rattle.kc_cells.specs.declared.accumulator.Accumulator.{Accumulator}
use Rattle.kc_cells.specs.declared.accumulator.AccAct.TheVariants as acc
use Rattle.kc_script_bundle.specs.declared.cancel.Cancel.{Cancel}
use Rattle.kc_script_bundle.specs.declared.object.Object.{Object}
use Rattle.kc_script_bundle.specs.declared.object.Object.TheVariants as object
use Rattle.kc_script_bundle.specs.declared.operation.Op.{Op}
use Rattle.kc_script_bundle.specs.declared.operation.Op.TheVariants as op
use Rattle.kc_script_bundle.specs.On.{CancelIsOn}
use Rattle.kc_script_bundle.specs.Script.{Names}
use Rattle.kc_script_verbs.specs.Declaring.{IsPlaced}
use Rattle.kc_script_verbs.specs.Objects.{object_of}

-- what a word of a line is
pub data Part : Type 0 where
  -- this word
  text : List ℕ → Part
  -- the name of this object
  object_name : Object → Part
  -- the name of this location
  place_name : Loc → Part
  -- this number
  numeral : ℕ → Part

-- ---- operations

abbrev pub fun_words : Fun → List Part
fun_words (fun.Add n) = Part.text (codes "add") ∷ Part.numeral n ∷ []
fun_words (fun.Max n) = Part.text (codes "max") ∷ Part.numeral n ∷ []
fun_words (fun.Min n) = Part.text (codes "min") ∷ Part.numeral n ∷ []
fun_words (fun.And n) = Part.text (codes "and") ∷ Part.numeral n ∷ []
fun_words (fun.Or n) = Part.text (codes "or") ∷ Part.numeral n ∷ []
fun_words (fun.Xor n) = Part.text (codes "xor") ∷ Part.numeral n ∷ []

abbrev pub rel_word : Rel → List ℕ
rel_word rel.Eq = codes "eq"
rel_word rel.Ne = codes "ne"
rel_word rel.Lt = codes "lt"
rel_word rel.Le = codes "le"
rel_word rel.Gt = codes "gt"
rel_word rel.Ge = codes "ge"

abbrev pub loc_words : LocOp → List Part
loc_words (loc.Get x) = Part.text (codes "get") ∷ Part.place_name x ∷ []
loc_words (loc.Set x v) = Part.text (codes "set") ∷ Part.place_name x ∷ Part.numeral v ∷ []
loc_words (loc.Exchange x v) = Part.text (codes "xchg") ∷ Part.place_name x ∷ Part.numeral v ∷ []
loc_words (loc.Swap x y) = Part.text (codes "swap") ∷ Part.place_name x ∷ Part.place_name y ∷ []
loc_words (loc.Cas x v w) = Part.text (codes "cas") ∷ Part.place_name x ∷ Part.numeral v ∷ Part.numeral w ∷ []
loc_words (loc.FetchAdd x v) = Part.text (codes "add") ∷ Part.place_name x ∷ Part.numeral v ∷ []
loc_words (loc.Incr x) = Part.text (codes "incr") ∷ Part.place_name x ∷ []
loc_words (loc.Decr x) = Part.text (codes "decr") ∷ Part.place_name x ∷ []
loc_words (loc.Update x f) = Part.text (codes "update") ∷ Part.place_name x ∷ fun_words f
loc_words (loc.Modify x f) = Part.text (codes "modify") ∷ Part.place_name x ∷ fun_words f
loc_words (loc.Check x r v) = Part.text (codes "check") ∷ Part.place_name x ∷ Part.text (rel_word r) ∷ Part.numeral v ∷ []

abbrev pub stack_words : Stack → StackAct → List Part
stack_words s (stack.Push v) = Part.text (codes "push") ∷ Part.object_name (object.Stack s) ∷ Part.numeral v ∷ []
stack_words s stack.Pop = Part.text (codes "pop") ∷ Part.object_name (object.Stack s) ∷ []
stack_words s stack.PopWait = Part.text (codes "popw") ∷ Part.object_name (object.Stack s) ∷ []
stack_words s stack.Top = Part.text (codes "top") ∷ Part.object_name (object.Stack s) ∷ []
stack_words s stack.Len = Part.text (codes "len") ∷ Part.object_name (object.Stack s) ∷ []

abbrev pub queue_words : Queue → QueueAct → List Part
queue_words q (queue.Enq v) = Part.text (codes "enq") ∷ Part.object_name (object.Queue q) ∷ Part.numeral v ∷ []
queue_words q queue.Deq = Part.text (codes "deq") ∷ Part.object_name (object.Queue q) ∷ []
queue_words q queue.DeqWait = Part.text (codes "deqw") ∷ Part.object_name (object.Queue q) ∷ []
queue_words q queue.Front = Part.text (codes "front") ∷ Part.object_name (object.Queue q) ∷ []
queue_words q queue.Len = Part.text (codes "len") ∷ Part.object_name (object.Queue q) ∷ []

-- of a table of either kind
abbrev pub table_words : Object → HashAct → List Part
table_words o (table.Put k v) = Part.text (codes "put") ∷ Part.object_name o ∷ Part.numeral k ∷ Part.numeral v ∷ []
table_words o (table.Find k) = Part.text (codes "find") ∷ Part.object_name o ∷ Part.numeral k ∷ []
table_words o (table.Del k) = Part.text (codes "del") ∷ Part.object_name o ∷ Part.numeral k ∷ []
table_words o table.Len = Part.text (codes "len") ∷ Part.object_name o ∷ []

-- the same on a table that doesn't grow
abbrev pub hash_act : GrowAct → HashAct
hash_act (grow.Put k v) = table.Put k v
hash_act (grow.Find k) = table.Find k
hash_act (grow.Del k) = table.Del k
hash_act grow.Len = table.Len

abbrev pub mvar_words : Mvar → MvarAct → List Part
mvar_words x (mvar.Put v) = Part.text (codes "mput") ∷ Part.object_name (object.Mvar x) ∷ Part.numeral v ∷ []
mvar_words x mvar.Take = Part.text (codes "mtake") ∷ Part.object_name (object.Mvar x) ∷ []
mvar_words x mvar.Peek = Part.text (codes "mpeek") ∷ Part.object_name (object.Mvar x) ∷ []

abbrev pub promise_words : Promise → PromiseAct → List Part
promise_words p (promise.Resolve v) = Part.text (codes "resolve") ∷ Part.object_name (object.Promise p) ∷ Part.numeral v ∷ []
promise_words p promise.Await = Part.text (codes "await") ∷ Part.object_name (object.Promise p) ∷ []
promise_words p promise.IsResolved = Part.text (codes "resolved") ∷ Part.object_name (object.Promise p) ∷ []

abbrev pub acc_words : Accumulator → AccAct → List Part
acc_words a (acc.Bump cell v) = Part.text (codes "bump") ∷ Part.object_name (object.Acc a) ∷ Part.numeral v ∷ []
acc_words a acc.Total = Part.text (codes "total") ∷ Part.object_name (object.Acc a) ∷ []

abbrev pub cache_words : Cache → CacheAct → List Part
cache_words c (cache.CPut k v) = Part.text (codes "cput") ∷ Part.object_name (object.Cache c) ∷ Part.numeral k ∷ Part.numeral v ∷ []
cache_words c (cache.CPutWait k v) = Part.text (codes "cputw") ∷ Part.object_name (object.Cache c) ∷ Part.numeral k ∷ Part.numeral v ∷ []
cache_words c (cache.CGet k) = Part.text (codes "cget") ∷ Part.object_name (object.Cache c) ∷ Part.numeral k ∷ []
cache_words c (cache.CDel k) = Part.text (codes "cdel") ∷ Part.object_name (object.Cache c) ∷ Part.numeral k ∷ []
cache_words c cache.Len = Part.text (codes "len") ∷ Part.object_name (object.Cache c) ∷ []

abbrev pub cancel_words : Cancel → List Part
cancel_words c = Part.text (codes "cancel") ∷ Part.numeral c.thread ∷ []

abbrev pub words_of : Op → List Part
words_of (op.Loc o) = loc_words o
words_of (op.Stack o) = stack_words o.stack o.act
words_of (op.Queue o) = queue_words o.queue o.act
words_of (op.Hash o) = table_words (object.Hash o.hash) o.act
words_of (op.Grow o) = table_words (object.Grow o.grow) (hash_act o.act)
words_of (op.Mvar o) = mvar_words o.mvar o.act
words_of (op.Promise o) = promise_words o.promise o.act
words_of (op.Acc o) = acc_words o.acc o.act
words_of (op.Cache o) = cache_words o.cache o.act
words_of (op.Cancel c) = cancel_words c

-- ---- declarations

abbrev pub declaring : List ℕ → Object → List Part
declaring name (object.Loc at opens) = Part.text (codes "loc") ∷ Part.text name ∷ Part.numeral opens ∷ []
declaring name (object.Stack s) = Part.text (codes "stack") ∷ Part.text name ∷ Part.numeral s.cap ∷ []
declaring name (object.Queue q) = Part.text (codes "queue") ∷ Part.text name ∷ Part.numeral q.cap ∷ []
declaring name (object.Hash h) = Part.text (codes "table") ∷ Part.text name ∷ Part.numeral h.buckets ∷ Part.numeral h.cap ∷ []
declaring name (object.Grow g) = Part.text (codes "grow") ∷ Part.text name ∷ Part.numeral g.cap ∷ []
declaring name (object.Cache c) = Part.text (codes "cache") ∷ Part.text name ∷ Part.numeral c.buckets ∷ Part.numeral c.cap ∷ []
declaring name (object.Mvar x) = Part.text (codes "mvar") ∷ Part.text name ∷ []
declaring name (object.Promise p) = Part.text (codes "promise") ∷ Part.text name ∷ []
declaring name (object.Acc a) = Part.text (codes "acc") ∷ Part.text name ∷ Part.numeral a.cells ∷ []

-- ---- lines

-- the name is that of an object
abbrev pub IsNamed : Names → List ℕ → Object → Type 0
IsNamed names word o = (is_name word ≡ true) × (object_of names word ≡ Some o)

-- one to ten digits, which may begin with zeros
abbrev pub IsNumeral : ℕ → List ℕ → Type 0
IsNumeral n word = (is_numeral word ≡ true) × (value_on 0 word ≡ n) × (n ≤ 4294967295)

abbrev pub WordStands : Names → Part → List ℕ → Type 0
WordStands names (Part.text w) word = word ≡ w
WordStands names (Part.object_name o) word = IsNamed names word o
WordStands names (Part.place_name x) word = (opens : ℕ) × IsNamed names word (object.Loc x opens)
WordStands names (Part.numeral n) word = IsNumeral n word

-- the words are these, up to leading zeros of numbers
abbrev pub Respells : Names → List Part → List (List ℕ) → Type 0
Respells names [] [] = Unit {0}
Respells names (part ∷ parts) (word ∷ line) = WordStands names part word × Respells names parts line
Respells names _ _ = ⊥

-- a thread adds to the cell of its number; threads are numbered from 0 here
abbrev pub AddsIn : ℕ → AccAct → Type 0
AddsIn thread (acc.Bump cell v) = cell ≡ thread
AddsIn thread acc.Total = Unit {0}

-- a cancel is at location 0, and numbers threads from 1 on
abbrev pub IsByThread : ℕ → Op → Type 0
IsByThread thread (op.Acc o) = AddsIn thread o.act
IsByThread thread (op.Cancel c) = CancelIsOn c
IsByThread thread _ = Unit {0}

-- the line says the operation in this thread
abbrev pub Says : ℕ → Names → List (List ℕ) → Op → Type 0
Says thread names line o = Respells names (words_of o) line × IsByThread thread o

-- behind these names, the line declares an object of this name
abbrev pub Declares : Names → List (List ℕ) → List ℕ × Object → Type 0
Declares names line entry = Respells names (declaring entry.0 entry.1) line × (is_name entry.0 ≡ true) × (object_of names entry.0 ≡ None) × IsPlaced names entry.1
