-- The words that begin lines, and what each is.
use Rattle.std.proofs.Common.{◌≡◌, ℕ, Bool, true, false, cond, List, Option, Some, None, refl, ap, ◌∙◌}
use Rattle.std.specs.Prelude.{codes}
use Rattle.std.specs.Option.{option_or, option_map}
use Rattle.std.specs.Str.{bytes_eq}
use Rattle.std.proofs.lemmas.Slice.Eq.{bytes_eq-Decides}
use Rattle.kc_script_verbs.specs.declared.verb.LocWord.{LocWord}
use Rattle.kc_script_verbs.specs.declared.verb.LocWord.TheVariants as loc_verb
use Rattle.kc_script_verbs.specs.declared.verb.StackWord.{StackWord}
use Rattle.kc_script_verbs.specs.declared.verb.StackWord.TheVariants as stack_verb
use Rattle.kc_script_verbs.specs.declared.verb.QueueWord.{QueueWord}
use Rattle.kc_script_verbs.specs.declared.verb.QueueWord.TheVariants as queue_verb
use Rattle.kc_script_verbs.specs.declared.verb.TableWord.{TableWord}
use Rattle.kc_script_verbs.specs.declared.verb.TableWord.TheVariants as table_verb
use Rattle.kc_script_verbs.specs.declared.verb.CacheWord.{CacheWord}
use Rattle.kc_script_verbs.specs.declared.verb.CacheWord.TheVariants as cache_verb
use Rattle.kc_script_verbs.specs.declared.verb.MvarWord.{MvarWord}
use Rattle.kc_script_verbs.specs.declared.verb.MvarWord.TheVariants as mvar_verb
use Rattle.kc_script_verbs.specs.declared.verb.PromiseWord.{PromiseWord}
use Rattle.kc_script_verbs.specs.declared.verb.PromiseWord.TheVariants as promise_verb
use Rattle.kc_script_verbs.specs.declared.verb.AccWord.{AccWord}
use Rattle.kc_script_verbs.specs.declared.verb.AccWord.TheVariants as acc_verb
use Rattle.kc_script_verbs.specs.declared.verb.ObjectVerb.{ObjectVerb}
use Rattle.kc_script_verbs.specs.declared.verb.ObjectVerb.TheVariants as object_verb
use Rattle.kc_script_verbs.specs.declared.verb.Verb.{Verb}
use Rattle.kc_script_verbs.specs.declared.verb.Verb.TheVariants as verb
use Rattle.kc_script_verbs.specs.declared.word.Kind.{Kind}
use Rattle.kc_script_verbs.specs.declared.word.Kind.TheVariants as kind
use Rattle.kc_script_verbs.specs.declared.word.Word.{Word}
use Rattle.kc_script_verbs.specs.declared.word.Word.TheVariants as word
use Rattle.kc_script_verbs.specs.Words.{plain_loc_word, choosing_loc_word, stack_word, queue_word, table_word, cache_word, mvar_word, promise_word, acc_word, loc_word, object_verb_of, verb_of, structure_word, kind_of, word_of}

abbrev pub loc_text : LocWord → List ℕ
loc_text loc_verb.Get = codes "get"
loc_text loc_verb.Set = codes "set"
loc_text loc_verb.Exchange = codes "xchg"
loc_text loc_verb.Swap = codes "swap"
loc_text loc_verb.Cas = codes "cas"
loc_text loc_verb.FetchAdd = codes "add"
loc_text loc_verb.Incr = codes "incr"
loc_text loc_verb.Decr = codes "decr"
loc_text loc_verb.Update = codes "update"
loc_text loc_verb.Modify = codes "modify"
loc_text loc_verb.Check = codes "check"

abbrev pub stack_text : StackWord → List ℕ
stack_text stack_verb.Push = codes "push"
stack_text stack_verb.Pop = codes "pop"
stack_text stack_verb.PopWait = codes "popw"
stack_text stack_verb.Top = codes "top"

abbrev pub queue_text : QueueWord → List ℕ
queue_text queue_verb.Enq = codes "enq"
queue_text queue_verb.Deq = codes "deq"
queue_text queue_verb.DeqWait = codes "deqw"
queue_text queue_verb.Front = codes "front"

abbrev pub table_text : TableWord → List ℕ
table_text table_verb.Put = codes "put"
table_text table_verb.Find = codes "find"
table_text table_verb.Del = codes "del"

abbrev pub cache_text : CacheWord → List ℕ
cache_text cache_verb.CPut = codes "cput"
cache_text cache_verb.CPutWait = codes "cputw"
cache_text cache_verb.CGet = codes "cget"
cache_text cache_verb.CDel = codes "cdel"

abbrev pub mvar_text : MvarWord → List ℕ
mvar_text mvar_verb.Put = codes "mput"
mvar_text mvar_verb.Take = codes "mtake"
mvar_text mvar_verb.Peek = codes "mpeek"

abbrev pub promise_text : PromiseWord → List ℕ
promise_text promise_verb.Resolve = codes "resolve"
promise_text promise_verb.Await = codes "await"
promise_text promise_verb.IsResolved = codes "resolved"

abbrev pub acc_text : AccWord → List ℕ
acc_text acc_verb.Bump = codes "bump"
acc_text acc_verb.Total = codes "total"

abbrev pub object_verb_text : ObjectVerb → List ℕ
object_verb_text (object_verb.OnLoc w) = loc_text w
object_verb_text (object_verb.OnStack w) = stack_text w
object_verb_text (object_verb.OnQueue w) = queue_text w
object_verb_text (object_verb.OnTable w) = table_text w
object_verb_text (object_verb.OnCache w) = cache_text w
object_verb_text (object_verb.OnMvar w) = mvar_text w
object_verb_text (object_verb.OnPromise w) = promise_text w
object_verb_text (object_verb.OnAcc w) = acc_text w
object_verb_text object_verb.Len = codes "len"

abbrev pub verb_text : Verb → List ℕ
verb_text (verb.On v) = object_verb_text v
verb_text verb.Cancel = codes "cancel"

abbrev pub kind_text : Kind → List ℕ
kind_text kind.Loc = codes "loc"
kind_text kind.Stack = codes "stack"
kind_text kind.Queue = codes "queue"
kind_text kind.Table = codes "table"
kind_text kind.Grow = codes "grow"
kind_text kind.Cache = codes "cache"
kind_text kind.Mvar = codes "mvar"
kind_text kind.Promise = codes "promise"
kind_text kind.Acc = codes "acc"

abbrev pub text_of : Word → List ℕ
text_of word.Thread = codes "thread"
text_of word.Atomic = codes "atomic"
text_of word.Or = codes "or"
text_of word.End = codes "end"
text_of (word.Declare k) = kind_text k
text_of (word.Say v) = verb_text v

-- ---- a word that was found

module _ (w : List ℕ) where
  -- what was found has this text
  abbrev Has : {V : Type 0} → (V → List ℕ) → Option V → Type 0
  Has {V} text r = (v : V) → r ≡ Some v → w ≡ text v

  none : {V : Type 0} (text : V → List ℕ) → Has text None
  none text v e = absurd cc

  link : {V : Type 0} (text : V → List ℕ) (v : V) (rest : Option V) → Has text rest → Has text (cond (bytes_eq w (text v)) (Some v) rest)
  link {V} text v rest more = by (bytes_eq w (text v)) (bytes_eq-Decides w (text v)).0 where
    by : (b : Bool) → (b ≡ true → w ≡ text v) → (x : V) → cond b (Some v) rest ≡ Some x → w ≡ text x
    by true d x e = let same : v ≡ x = cc in d refl ∙ ap text same
    by false d x e = more x e

  either : {V : Type 0} (text : V → List ℕ) (a b : Option V) → Has text a → Has text b → Has text (option_or a b)
  either text None b f g v e = g v e
  either text (Some x) b f g v e = f v e

  mapped : {U V : Type 0} (text : V → List ℕ) (f : U → V) (r : Option U) → Has (λ u. text (f u)) r → Has text (option_map f r)
  mapped text f None h v e = absurd cc
  mapped text f (Some u) h v e = let same : f u ≡ v = cc in h u refl ∙ ap text same

  loc_has : Has loc_text (loc_word w)
  unfolding loc_word plain_loc_word choosing_loc_word
  loc_has = either loc_text _ _ (link loc_text loc_verb.Get _ (link loc_text loc_verb.Set _ (link loc_text loc_verb.Exchange _ (link loc_text loc_verb.Swap _ (link loc_text loc_verb.Cas _ (link loc_text loc_verb.FetchAdd _ (link loc_text loc_verb.Incr _ (link loc_text loc_verb.Decr _ (none loc_text))))))))) (link loc_text loc_verb.Update _ (link loc_text loc_verb.Modify _ (link loc_text loc_verb.Check _ (none loc_text))))

  stack_has : Has stack_text (stack_word w)
  unfolding stack_word
  stack_has = link stack_text stack_verb.Push _ (link stack_text stack_verb.Pop _ (link stack_text stack_verb.PopWait _ (link stack_text stack_verb.Top _ (none stack_text))))

  queue_has : Has queue_text (queue_word w)
  unfolding queue_word
  queue_has = link queue_text queue_verb.Enq _ (link queue_text queue_verb.Deq _ (link queue_text queue_verb.DeqWait _ (link queue_text queue_verb.Front _ (none queue_text))))

  table_has : Has table_text (table_word w)
  unfolding table_word
  table_has = link table_text table_verb.Put _ (link table_text table_verb.Find _ (link table_text table_verb.Del _ (none table_text)))

  cache_has : Has cache_text (cache_word w)
  unfolding cache_word
  cache_has = link cache_text cache_verb.CPut _ (link cache_text cache_verb.CPutWait _ (link cache_text cache_verb.CGet _ (link cache_text cache_verb.CDel _ (none cache_text))))

  mvar_has : Has mvar_text (mvar_word w)
  unfolding mvar_word
  mvar_has = link mvar_text mvar_verb.Put _ (link mvar_text mvar_verb.Take _ (link mvar_text mvar_verb.Peek _ (none mvar_text)))

  promise_has : Has promise_text (promise_word w)
  unfolding promise_word
  promise_has = link promise_text promise_verb.Resolve _ (link promise_text promise_verb.Await _ (link promise_text promise_verb.IsResolved _ (none promise_text)))

  acc_has : Has acc_text (acc_word w)
  unfolding acc_word
  acc_has = link acc_text acc_verb.Bump _ (link acc_text acc_verb.Total _ (none acc_text))

  object_verb_has : Has object_verb_text (object_verb_of w)
  unfolding object_verb_of
  object_verb_has =
      either object_verb_text _ _ (mapped object_verb_text (λ on. object_verb.OnLoc on) _ loc_has) (
      either object_verb_text _ _ (mapped object_verb_text (λ on. object_verb.OnStack on) _ stack_has) (
      either object_verb_text _ _ (mapped object_verb_text (λ on. object_verb.OnQueue on) _ queue_has) (
      either object_verb_text _ _ (mapped object_verb_text (λ on. object_verb.OnTable on) _ table_has) (
      either object_verb_text _ _ (mapped object_verb_text (λ on. object_verb.OnCache on) _ cache_has) (
      either object_verb_text _ _ (mapped object_verb_text (λ on. object_verb.OnMvar on) _ mvar_has) (
      either object_verb_text _ _ (mapped object_verb_text (λ on. object_verb.OnPromise on) _ promise_has) (
      either object_verb_text _ _ (mapped object_verb_text (λ on. object_verb.OnAcc on) _ acc_has) (
      link object_verb_text object_verb.Len _ (none object_verb_text)))))))))

  verb_has : Has verb_text (verb_of w)
  unfolding verb_of
  verb_has = either verb_text _ _ (mapped verb_text (λ on. verb.On on) _ object_verb_has) (link verb_text verb.Cancel _ (none verb_text))

  structure_has : Has text_of (structure_word w)
  unfolding structure_word
  structure_has = link text_of word.Thread _ (link text_of word.Atomic _ (link text_of word.Or _ (link text_of word.End _ (none text_of))))

  kind_has : Has kind_text (kind_of w)
  unfolding kind_of
  kind_has = link kind_text kind.Loc _ (link kind_text kind.Stack _ (link kind_text kind.Queue _ (link kind_text kind.Table _ (link kind_text kind.Grow _ (link kind_text kind.Cache _ (link kind_text kind.Mvar _ (link kind_text kind.Promise _ (link kind_text kind.Acc _ (none kind_text)))))))))

  -- the word that begins a line has its text
  pub word_has : (x : Word) → word_of w ≡ Some x → w ≡ text_of x
  unfolding word_of
  word_has = either text_of _ _ structure_has (either text_of _ _ (mapped text_of (λ k. word.Declare k) _ kind_has) (mapped text_of (λ v. word.Say v) _ verb_has))

-- ---- each text is its word's

object_verb_read : (v : ObjectVerb) → word_of (object_verb_text v) ≡ Some (word.Say (verb.On v))
unfolding word_of structure_word kind_of verb_of object_verb_of loc_word plain_loc_word choosing_loc_word stack_word queue_word table_word cache_word mvar_word promise_word acc_word
object_verb_read (object_verb.OnLoc loc_verb.Get) = refl
object_verb_read (object_verb.OnLoc loc_verb.Set) = refl
object_verb_read (object_verb.OnLoc loc_verb.Exchange) = refl
object_verb_read (object_verb.OnLoc loc_verb.Swap) = refl
object_verb_read (object_verb.OnLoc loc_verb.Cas) = refl
object_verb_read (object_verb.OnLoc loc_verb.FetchAdd) = refl
object_verb_read (object_verb.OnLoc loc_verb.Incr) = refl
object_verb_read (object_verb.OnLoc loc_verb.Decr) = refl
object_verb_read (object_verb.OnLoc loc_verb.Update) = refl
object_verb_read (object_verb.OnLoc loc_verb.Modify) = refl
object_verb_read (object_verb.OnLoc loc_verb.Check) = refl
object_verb_read (object_verb.OnStack stack_verb.Push) = refl
object_verb_read (object_verb.OnStack stack_verb.Pop) = refl
object_verb_read (object_verb.OnStack stack_verb.PopWait) = refl
object_verb_read (object_verb.OnStack stack_verb.Top) = refl
object_verb_read (object_verb.OnQueue queue_verb.Enq) = refl
object_verb_read (object_verb.OnQueue queue_verb.Deq) = refl
object_verb_read (object_verb.OnQueue queue_verb.DeqWait) = refl
object_verb_read (object_verb.OnQueue queue_verb.Front) = refl
object_verb_read (object_verb.OnTable table_verb.Put) = refl
object_verb_read (object_verb.OnTable table_verb.Find) = refl
object_verb_read (object_verb.OnTable table_verb.Del) = refl
object_verb_read (object_verb.OnCache cache_verb.CPut) = refl
object_verb_read (object_verb.OnCache cache_verb.CPutWait) = refl
object_verb_read (object_verb.OnCache cache_verb.CGet) = refl
object_verb_read (object_verb.OnCache cache_verb.CDel) = refl
object_verb_read (object_verb.OnMvar mvar_verb.Put) = refl
object_verb_read (object_verb.OnMvar mvar_verb.Take) = refl
object_verb_read (object_verb.OnMvar mvar_verb.Peek) = refl
object_verb_read (object_verb.OnPromise promise_verb.Resolve) = refl
object_verb_read (object_verb.OnPromise promise_verb.Await) = refl
object_verb_read (object_verb.OnPromise promise_verb.IsResolved) = refl
object_verb_read (object_verb.OnAcc acc_verb.Bump) = refl
object_verb_read (object_verb.OnAcc acc_verb.Total) = refl
object_verb_read object_verb.Len = refl

pub verb_read : (v : Verb) → word_of (verb_text v) ≡ Some (word.Say v)
unfolding word_of structure_word kind_of verb_of object_verb_of loc_word plain_loc_word choosing_loc_word stack_word queue_word table_word cache_word mvar_word promise_word acc_word
verb_read (verb.On v) = object_verb_read v
verb_read verb.Cancel = refl

pub kind_read : (k : Kind) → word_of (kind_text k) ≡ Some (word.Declare k)
unfolding word_of structure_word kind_of
kind_read kind.Loc = refl
kind_read kind.Stack = refl
kind_read kind.Queue = refl
kind_read kind.Table = refl
kind_read kind.Grow = refl
kind_read kind.Cache = refl
kind_read kind.Mvar = refl
kind_read kind.Promise = refl
kind_read kind.Acc = refl
