-- The words that begin lines.
use Rattle.std.specs.Prelude.{ℕ, List, codes, Option, Some, None, if◌then◌else◌}
use Rattle.std.specs.Option.{option_or, option_map}
use Rattle.std.specs.Str.{bytes_eq}
use Rattle.kc_script_verbs.specs.declared.verb.LocWord.{LocWord}
use Rattle.kc_script_verbs.specs.declared.verb.LocWord.TheVariants as loc_verb
use Rattle.kc_script_verbs.specs.declared.verb.StackWord.{StackWord}
use Rattle.kc_script_verbs.specs.declared.verb.StackWord.TheVariants as stack_verb
use Rattle.kc_script_verbs.specs.declared.verb.QueueWord.{QueueWord}
use Rattle.kc_script_verbs.specs.declared.verb.QueueWord.TheVariants as queue_verb
use Rattle.kc_script_verbs.specs.declared.verb.TableWord.{TableWord}
use Rattle.kc_script_verbs.specs.declared.verb.TableWord.TheVariants as table_verb
use Rattle.kc_script_verbs.specs.declared.verb.CacheWord.{CacheWord}
use Rattle.kc_script_verbs.specs.declared.verb.CacheWord.TheVariants as cache_verb
use Rattle.kc_script_verbs.specs.declared.verb.MvarWord.{MvarWord}
use Rattle.kc_script_verbs.specs.declared.verb.MvarWord.TheVariants as mvar_verb
use Rattle.kc_script_verbs.specs.declared.verb.PromiseWord.{PromiseWord}
use Rattle.kc_script_verbs.specs.declared.verb.PromiseWord.TheVariants as promise_verb
use Rattle.kc_script_verbs.specs.declared.verb.AccWord.{AccWord}
use Rattle.kc_script_verbs.specs.declared.verb.AccWord.TheVariants as acc_verb
use Rattle.kc_script_verbs.specs.declared.verb.ObjectVerb.{ObjectVerb}
use Rattle.kc_script_verbs.specs.declared.verb.ObjectVerb.TheVariants as object_verb
use Rattle.kc_script_verbs.specs.declared.verb.Verb.{Verb}
use Rattle.kc_script_verbs.specs.declared.verb.Verb.TheVariants as verb
use Rattle.kc_script_verbs.specs.declared.word.Kind.{Kind}
use Rattle.kc_script_verbs.specs.declared.word.Kind.TheVariants as kind
use Rattle.kc_script_verbs.specs.declared.word.Word.{Word}
use Rattle.kc_script_verbs.specs.declared.word.Word.TheVariants as word

-- the word of a command on a location that takes no function or relation
unfoldable pub plain_loc_word : List ℕ → Option LocWord
plain_loc_word w =
    if bytes_eq w (codes "get") then Some loc_verb.Get
    else (if bytes_eq w (codes "set") then Some loc_verb.Set
    else (if bytes_eq w (codes "xchg") then Some loc_verb.Exchange
    else (if bytes_eq w (codes "swap") then Some loc_verb.Swap
    else (if bytes_eq w (codes "cas") then Some loc_verb.Cas
    else (if bytes_eq w (codes "add") then Some loc_verb.FetchAdd
    else (if bytes_eq w (codes "incr") then Some loc_verb.Incr
    else (if bytes_eq w (codes "decr") then Some loc_verb.Decr
    else None)))))))

-- the word of a command on a location that takes a function or a relation
unfoldable pub choosing_loc_word : List ℕ → Option LocWord
choosing_loc_word w =
    if bytes_eq w (codes "update") then Some loc_verb.Update
    else (if bytes_eq w (codes "modify") then Some loc_verb.Modify
    else (if bytes_eq w (codes "check") then Some loc_verb.Check
    else None))

-- the word of a command on a stack
unfoldable pub stack_word : List ℕ → Option StackWord
stack_word w =
    if bytes_eq w (codes "push") then Some stack_verb.Push
    else (if bytes_eq w (codes "pop") then Some stack_verb.Pop
    else (if bytes_eq w (codes "popw") then Some stack_verb.PopWait
    else (if bytes_eq w (codes "top") then Some stack_verb.Top
    else None)))

-- the word of a command on a queue
unfoldable pub queue_word : List ℕ → Option QueueWord
queue_word w =
    if bytes_eq w (codes "enq") then Some queue_verb.Enq
    else (if bytes_eq w (codes "deq") then Some queue_verb.Deq
    else (if bytes_eq w (codes "deqw") then Some queue_verb.DeqWait
    else (if bytes_eq w (codes "front") then Some queue_verb.Front
    else None)))

-- the word of a command on a table
unfoldable pub table_word : List ℕ → Option TableWord
table_word w =
    if bytes_eq w (codes "put") then Some table_verb.Put
    else (if bytes_eq w (codes "find") then Some table_verb.Find
    else (if bytes_eq w (codes "del") then Some table_verb.Del
    else None))

-- the word of a command on a cache
unfoldable pub cache_word : List ℕ → Option CacheWord
cache_word w =
    if bytes_eq w (codes "cput") then Some cache_verb.CPut
    else (if bytes_eq w (codes "cputw") then Some cache_verb.CPutWait
    else (if bytes_eq w (codes "cget") then Some cache_verb.CGet
    else (if bytes_eq w (codes "cdel") then Some cache_verb.CDel
    else None)))

-- the word of a command on a one-place variable
unfoldable pub mvar_word : List ℕ → Option MvarWord
mvar_word w =
    if bytes_eq w (codes "mput") then Some mvar_verb.Put
    else (if bytes_eq w (codes "mtake") then Some mvar_verb.Take
    else (if bytes_eq w (codes "mpeek") then Some mvar_verb.Peek
    else None))

-- the word of a command on a promise
unfoldable pub promise_word : List ℕ → Option PromiseWord
promise_word w =
    if bytes_eq w (codes "resolve") then Some promise_verb.Resolve
    else (if bytes_eq w (codes "await") then Some promise_verb.Await
    else (if bytes_eq w (codes "resolved") then Some promise_verb.IsResolved
    else None))

-- the word of a command on an accumulator
unfoldable pub acc_word : List ℕ → Option AccWord
acc_word w =
    if bytes_eq w (codes "bump") then Some acc_verb.Bump
    else (if bytes_eq w (codes "total") then Some acc_verb.Total
    else None)

-- the word of a command on a location
unfoldable pub loc_word : List ℕ → Option LocWord
loc_word w = option_or (plain_loc_word w) (choosing_loc_word w)

-- the word of a command on an object
unfoldable pub object_verb_of : List ℕ → Option ObjectVerb
object_verb_of w =
    option_or (option_map (λ on. object_verb.OnLoc on) (loc_word w))
    (option_or (option_map (λ on. object_verb.OnStack on) (stack_word w))
    (option_or (option_map (λ on. object_verb.OnQueue on) (queue_word w))
    (option_or (option_map (λ on. object_verb.OnTable on) (table_word w))
    (option_or (option_map (λ on. object_verb.OnCache on) (cache_word w))
    (option_or (option_map (λ on. object_verb.OnMvar on) (mvar_word w))
    (option_or (option_map (λ on. object_verb.OnPromise on) (promise_word w))
    (option_or (option_map (λ on. object_verb.OnAcc on) (acc_word w))
    (if bytes_eq w (codes "len") then Some object_verb.Len else None))))))))

-- the word of a command
unfoldable pub verb_of : List ℕ → Option Verb
verb_of w = option_or (option_map (λ on. verb.On on) (object_verb_of w)) (if bytes_eq w (codes "cancel") then Some verb.Cancel else None)

-- the word of a line of a thread or a block
unfoldable pub structure_word : List ℕ → Option Word
structure_word w =
    if bytes_eq w (codes "thread") then Some word.Thread
    else (if bytes_eq w (codes "atomic") then Some word.Atomic
    else (if bytes_eq w (codes "or") then Some word.Or
    else (if bytes_eq w (codes "end") then Some word.End
    else None)))

-- the word of a declaration
unfoldable pub kind_of : List ℕ → Option Kind
kind_of w =
    if bytes_eq w (codes "loc") then Some kind.Loc
    else (if bytes_eq w (codes "stack") then Some kind.Stack
    else (if bytes_eq w (codes "queue") then Some kind.Queue
    else (if bytes_eq w (codes "table") then Some kind.Table
    else (if bytes_eq w (codes "grow") then Some kind.Grow
    else (if bytes_eq w (codes "cache") then Some kind.Cache
    else (if bytes_eq w (codes "mvar") then Some kind.Mvar
    else (if bytes_eq w (codes "promise") then Some kind.Promise
    else (if bytes_eq w (codes "acc") then Some kind.Acc
    else None))))))))

-- the word that begins a line
unfoldable pub word_of : List ℕ → Option Word
word_of w = option_or (structure_word w) (option_or (option_map (λ k. word.Declare k) (kind_of w)) (option_map (λ v. word.Say v) (verb_of w)))
