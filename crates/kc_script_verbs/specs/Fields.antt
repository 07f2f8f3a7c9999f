-- What stands behind the first word of a line, as a table, and the tests of these words from left to right.
use Rattle.std.specs.Prelude.{ℕ, ◌+◌, ◌*◌, Bool, true, false, ◌&&◌, ◌||◌, not, List, [], ◌∷◌, ◌++◌, length, map, codes, Option, Some, None, is_some, if◌then◌else◌}
use Rattle.std.specs.Str.{bytes_eq}
use Rattle.kc_cells.specs.declared.accumulator.TheConstants.{MOST_CELLS}
use Rattle.kc_script_bundle.specs.declared.bundle.TheConstants.{MOST_THREADS}
use Rattle.kc_script_bundle.specs.declared.object.Object.{Object}
use Rattle.kc_script_lines.specs.Tests.{count_tests, word_at, is_number}
use Rattle.kc_script_lines.specs.Words.{is_name, value_on}
use Rattle.kc_script_lines.specs.declared.fault.Why.{Why}
use Rattle.kc_script_lines.specs.declared.fault.Why.TheVariants.{UnknownWord, UnknownName, RepeatedName, BadName, BadNumber, WrongKind}
use Rattle.kc_xt.specs.declared.structure.TheConstants.{MOST_ITEMS, MOST_BUCKETS}
use Rattle.kc_script_bundle.specs.declared.object.Object.TheVariants as object
use Rattle.kc_script_bundle.specs.Script.{Names}
use Rattle.kc_script_verbs.specs.declared.verb.LocWord.{LocWord}
use Rattle.kc_script_verbs.specs.declared.verb.LocWord.TheVariants as loc_verb
use Rattle.kc_script_verbs.specs.declared.verb.StackWord.{StackWord}
use Rattle.kc_script_verbs.specs.declared.verb.StackWord.TheVariants as stack_verb
use Rattle.kc_script_verbs.specs.declared.verb.QueueWord.{QueueWord}
use Rattle.kc_script_verbs.specs.declared.verb.QueueWord.TheVariants as queue_verb
use Rattle.kc_script_verbs.specs.declared.verb.TableWord.{TableWord}
use Rattle.kc_script_verbs.specs.declared.verb.TableWord.TheVariants as table_verb
use Rattle.kc_script_verbs.specs.declared.verb.CacheWord.{CacheWord}
use Rattle.kc_script_verbs.specs.declared.verb.CacheWord.TheVariants as cache_verb
use Rattle.kc_script_verbs.specs.declared.verb.MvarWord.{MvarWord}
use Rattle.kc_script_verbs.specs.declared.verb.MvarWord.TheVariants as mvar_verb
use Rattle.kc_script_verbs.specs.declared.verb.PromiseWord.{PromiseWord}
use Rattle.kc_script_verbs.specs.declared.verb.PromiseWord.TheVariants as promise_verb
use Rattle.kc_script_verbs.specs.declared.verb.AccWord.{AccWord}
use Rattle.kc_script_verbs.specs.declared.verb.AccWord.TheVariants as acc_verb
use Rattle.kc_script_verbs.specs.declared.verb.ObjectVerb.{ObjectVerb}
use Rattle.kc_script_verbs.specs.declared.verb.ObjectVerb.TheVariants as object_verb
use Rattle.kc_script_verbs.specs.declared.verb.Verb.{Verb}
use Rattle.kc_script_verbs.specs.declared.verb.Verb.TheVariants as verb
use Rattle.kc_script_verbs.specs.declared.word.Kind.{Kind}
use Rattle.kc_script_verbs.specs.declared.word.Kind.TheVariants as kind

-- what a word stands for
pub data Field : Type 0 where
  -- a name that is declared
  new : Field
  -- a name that is used, of an object whose kind has the command
  used : (Kind → Bool) → Field
  -- a number in this range
  number : ℕ → ℕ → Field
  -- a function
  function : Field
  -- a relation
  relation : Field

-- a number of 32 bits
abbrev pub value : Field
value = Field.number 0 4294967295

abbrev pub capacity : Field
capacity = Field.number 1 MOST_ITEMS

abbrev pub buckets : Field
buckets = Field.number 1 MOST_BUCKETS

-- ---- declarations

abbrev pub kind_fields : Kind → List Field
kind_fields kind.Loc = Field.new ∷ value ∷ []
kind_fields kind.Stack = Field.new ∷ capacity ∷ []
kind_fields kind.Queue = Field.new ∷ capacity ∷ []
kind_fields kind.Table = Field.new ∷ buckets ∷ capacity ∷ []
kind_fields kind.Grow = Field.new ∷ capacity ∷ []
kind_fields kind.Cache = Field.new ∷ buckets ∷ capacity ∷ []
kind_fields kind.Mvar = Field.new ∷ []
kind_fields kind.Promise = Field.new ∷ []
kind_fields kind.Acc = Field.new ∷ Field.number 1 MOST_CELLS ∷ []

abbrev pub number_at : List (List ℕ) → ℕ → ℕ
number_at args i = value_on 0 (word_at args i)

-- how many cells is declared
abbrev pub declared_size : Kind → List (List ℕ) → ℕ
declared_size kind.Loc args = 1
declared_size kind.Stack args = 1 + number_at args 1
declared_size kind.Queue args = 2 + number_at args 1
declared_size kind.Table args = 2 + number_at args 1 + 3 * number_at args 2
declared_size kind.Grow args = 3 + 4 * number_at args 1
declared_size kind.Cache args = 6 + number_at args 1 + 7 * number_at args 2
declared_size kind.Mvar args = 2
declared_size kind.Promise args = 2
declared_size kind.Acc args = number_at args 1

-- ---- commands

abbrev pub is_loc : Kind → Bool
is_loc kind.Loc = true
is_loc _ = false

abbrev pub is_stack : Kind → Bool
is_stack kind.Stack = true
is_stack _ = false

abbrev pub is_queue : Kind → Bool
is_queue kind.Queue = true
is_queue _ = false

-- of either kind of table
abbrev pub is_table : Kind → Bool
is_table kind.Table = true
is_table kind.Grow = true
is_table _ = false

abbrev pub is_cache : Kind → Bool
is_cache kind.Cache = true
is_cache _ = false

abbrev pub is_mvar : Kind → Bool
is_mvar kind.Mvar = true
is_mvar _ = false

abbrev pub is_promise : Kind → Bool
is_promise kind.Promise = true
is_promise _ = false

abbrev pub is_acc : Kind → Bool
is_acc kind.Acc = true
is_acc _ = false

abbrev pub has_length : Kind → Bool
has_length k = is_stack k || is_queue k || is_table k || is_cache k

abbrev pub loc_fields : LocWord → List Field
loc_fields loc_verb.Get = []
loc_fields loc_verb.Set = value ∷ []
loc_fields loc_verb.Exchange = value ∷ []
loc_fields loc_verb.Swap = Field.used is_loc ∷ []
loc_fields loc_verb.Cas = value ∷ value ∷ []
loc_fields loc_verb.FetchAdd = value ∷ []
loc_fields loc_verb.Incr = []
loc_fields loc_verb.Decr = []
loc_fields loc_verb.Update = Field.function ∷ value ∷ []
loc_fields loc_verb.Modify = Field.function ∷ value ∷ []
loc_fields loc_verb.Check = Field.relation ∷ value ∷ []

abbrev pub stack_fields : StackWord → List Field
stack_fields stack_verb.Push = value ∷ []
stack_fields _ = []

abbrev pub queue_fields : QueueWord → List Field
queue_fields queue_verb.Enq = value ∷ []
queue_fields _ = []

abbrev pub table_fields : TableWord → List Field
table_fields table_verb.Put = value ∷ value ∷ []
table_fields table_verb.Find = value ∷ []
table_fields table_verb.Del = value ∷ []

abbrev pub cache_fields : CacheWord → List Field
cache_fields cache_verb.CPut = value ∷ value ∷ []
cache_fields cache_verb.CPutWait = value ∷ value ∷ []
cache_fields cache_verb.CGet = value ∷ []
cache_fields cache_verb.CDel = value ∷ []

abbrev pub mvar_fields : MvarWord → List Field
mvar_fields mvar_verb.Put = value ∷ []
mvar_fields _ = []

abbrev pub promise_fields : PromiseWord → List Field
promise_fields promise_verb.Resolve = value ∷ []
promise_fields _ = []

abbrev pub acc_fields : AccWord → List Field
acc_fields acc_verb.Bump = value ∷ []
acc_fields acc_verb.Total = []

abbrev pub object_fields : ObjectVerb → List Field
object_fields (object_verb.OnLoc w) = Field.used is_loc ∷ loc_fields w
object_fields (object_verb.OnStack w) = Field.used is_stack ∷ stack_fields w
object_fields (object_verb.OnQueue w) = Field.used is_queue ∷ queue_fields w
object_fields (object_verb.OnTable w) = Field.used is_table ∷ table_fields w
object_fields (object_verb.OnCache w) = Field.used is_cache ∷ cache_fields w
object_fields (object_verb.OnMvar w) = Field.used is_mvar ∷ mvar_fields w
object_fields (object_verb.OnPromise w) = Field.used is_promise ∷ promise_fields w
object_fields (object_verb.OnAcc w) = Field.used is_acc ∷ acc_fields w
object_fields object_verb.Len = Field.used has_length ∷ []

abbrev pub verb_fields : Verb → List Field
verb_fields (verb.On v) = object_fields v
verb_fields verb.Cancel = Field.number 1 MOST_THREADS ∷ []

-- ---- tests

-- names with the kinds of their objects
abbrev pub Kinds : Type 0
Kinds = List (List ℕ × Kind)

abbrev pub object_kind : Object → Kind
object_kind (object.Loc at opens) = kind.Loc
object_kind (object.Stack s) = kind.Stack
object_kind (object.Queue q) = kind.Queue
object_kind (object.Mvar x) = kind.Mvar
object_kind (object.Promise p) = kind.Promise
object_kind (object.Acc a) = kind.Acc
object_kind (object.Hash h) = kind.Table
object_kind (object.Grow g) = kind.Grow
object_kind (object.Cache c) = kind.Cache

abbrev pub kinds_of : Names → Kinds
kinds_of names = map (λ entry. (entry.0, object_kind entry.1)) names

abbrev pub kind_named : Kinds → List ℕ → Option Kind
kind_named [] name = None
kind_named (entry ∷ names) name = if bytes_eq name entry.0 then Some entry.1 else kind_named names name

-- a kind is there, and it has the command
abbrev pub is_such : (Kind → Bool) → Option Kind → Bool
is_such has None = false
is_such has (Some k) = has k

abbrev pub is_among : List ℕ → List (List ℕ) → Bool
is_among word [] = false
is_among word (w ∷ words) = if bytes_eq word w then true else is_among word words

abbrev pub functions : List (List ℕ)
functions = codes "add" ∷ codes "max" ∷ codes "min" ∷ codes "and" ∷ codes "or" ∷ codes "xor" ∷ []

abbrev pub relations : List (List ℕ)
relations = codes "eq" ∷ codes "ne" ∷ codes "lt" ∷ codes "le" ∷ codes "gt" ∷ codes "ge" ∷ []

abbrev pub field_tests : Kinds → Field → List ℕ → List (Bool × Why)
field_tests names Field.new word = (is_name word, BadName) ∷ (not (is_some (kind_named names word)), RepeatedName) ∷ []
field_tests names (Field.used has) word = (is_name word && is_some (kind_named names word), UnknownName) ∷ (is_such has (kind_named names word), WrongKind) ∷ []
field_tests names (Field.number least most) word = (is_number least most word, BadNumber) ∷ []
field_tests names Field.function word = (is_among word functions, UnknownWord) ∷ []
field_tests names Field.relation word = (is_among word relations, UnknownWord) ∷ []

-- the words from left to right
abbrev pub word_tests : Kinds → List Field → List (List ℕ) → List (Bool × Why)
word_tests names (field ∷ fields) (word ∷ args) = field_tests names field word ++ word_tests names fields args
word_tests names _ _ = []

-- as many words as there are fields, and then each word
abbrev pub args_tests : Kinds → List Field → List (List ℕ) → List (Bool × Why)
args_tests names fields args = count_tests (length fields) args ++ word_tests names fields args
