-- A line says an operation exactly where it is read as one.
use Rattle.std.proofs.Common.{◌≡◌, ℕ, suc, ◌≤◌, Bool, true, false, cond, leb, ltb, List, [], ◌∷◌, length, Option, Some, None, Result, Ok, Err, refl, sym, ap, subst, ◌∙◌, arith}
use Rattle.std.specs.Prelude.{codes}
use Rattle.std.specs.Str.{bytes_eq}
use Rattle.std.proofs.lemmas.Bool.{le-leb, leb-true}
use Rattle.std.proofs.lemmas.Bool.Decides.{nat_tests}
use Rattle.std.proofs.lemmas.Slice.Eq.{bytes_eq-Decides}
use Rattle.kc_loc.specs.declared.operation.LocOp.{LocOp}
use Rattle.kc_model.specs.declared.footprint.Loc.{Loc}
use Rattle.kc_script_lines.proofs.Faults.{counted_length, number_value, positive_value}
use Rattle.kc_script_lines.proofs.Given.{given, bind_ok, ok_is, found_ok}
use Rattle.kc_script_lines.specs.Tests.{◌>>=◌, wants, counted, word_at, number_to, positive_to}
use Rattle.kc_script_lines.specs.Words.{is_name, value_on, number}
use Rattle.kc_script_lines.specs.declared.fault.Why.{Why}
use Rattle.kc_script_lines.specs.declared.fault.Why.TheVariants.{BadNumber, UnknownName, MissingWord, ExtraWord}
use Rattle.kc_loc.specs.declared.operation.LocOp.TheVariants as loc
use Rattle.kc_loc.specs.declared.kinds.Fun.{Fun}
use Rattle.kc_loc.specs.declared.kinds.Fun.TheVariants as fun
use Rattle.kc_loc.specs.declared.kinds.Rel.{Rel}
use Rattle.kc_loc.specs.declared.kinds.Rel.TheVariants as rel
use Rattle.kc_stack.specs.declared.operation.StackAct.{StackAct}
use Rattle.kc_stack.specs.declared.stack.Stack.{Stack}
use Rattle.kc_stack.specs.declared.operation.StackAct.TheVariants as stack
use Rattle.kc_queue.specs.declared.operation.QueueAct.{QueueAct}
use Rattle.kc_queue.specs.declared.queue.Queue.{Queue}
use Rattle.kc_queue.specs.declared.operation.QueueAct.TheVariants as queue
use Rattle.kc_grow.specs.declared.operation.GrowAct.{GrowAct}
use Rattle.kc_grow.specs.declared.operation.GrowAct.TheVariants as grow
use Rattle.kc_hash.specs.declared.operation.HashAct.{HashAct}
use Rattle.kc_hash.specs.declared.operation.HashAct.TheVariants as table
use Rattle.kc_cache.specs.declared.cache.Cache.{Cache}
use Rattle.kc_cache.specs.declared.operation.CacheAct.{CacheAct}
use Rattle.kc_cache.specs.declared.operation.CacheAct.TheVariants as cache
use Rattle.kc_cells.specs.declared.mvar.Mvar.{Mvar}
use Rattle.kc_cells.specs.declared.mvar.MvarAct.{MvarAct}
use Rattle.kc_cells.specs.declared.mvar.MvarAct.TheVariants as mvar
use Rattle.kc_cells.specs.declared.promise.Promise.{Promise}
use Rattle.kc_cells.specs.declared.promise.PromiseAct.{PromiseAct}
use Rattle.kc_cells.specs.declared.promise.PromiseAct.TheVariants as promise
use Rattle.kc_cells.specs.declared.accumulator.AccAct.{AccAct}
use Rattle.kc_cells.specs.declared.accumulator.Accumulator.{Accumulator}
use Rattle.kc_cells.specs.declared.accumulator.AccAct.TheVariants as acc
use Rattle.kc_script_bundle.specs.declared.bundle.TheConstants.{MOST_THREADS}
use Rattle.kc_script_bundle.specs.declared.cancel.Cancel.{Cancel}
use Rattle.kc_script_bundle.specs.declared.object.Object.{Object}
use Rattle.kc_script_bundle.specs.declared.object.Object.TheVariants as object
use Rattle.kc_script_bundle.specs.declared.operation.Op.{Op}
use Rattle.kc_script_bundle.specs.declared.operation.Op.TheVariants as op
use Rattle.kc_script_bundle.specs.Script.{Names}
use Rattle.kc_script_verbs.specs.declared.verb.LocWord.{LocWord}
use Rattle.kc_script_verbs.specs.declared.verb.LocWord.TheVariants as loc_verb
use Rattle.kc_script_verbs.specs.declared.verb.StackWord.{StackWord}
use Rattle.kc_script_verbs.specs.declared.verb.StackWord.TheVariants as stack_verb
use Rattle.kc_script_verbs.specs.declared.verb.QueueWord.{QueueWord}
use Rattle.kc_script_verbs.specs.declared.verb.QueueWord.TheVariants as queue_verb
use Rattle.kc_script_verbs.specs.declared.verb.TableWord.{TableWord}
use Rattle.kc_script_verbs.specs.declared.verb.TableWord.TheVariants as table_verb
use Rattle.kc_script_verbs.specs.declared.verb.CacheWord.{CacheWord}
use Rattle.kc_script_verbs.specs.declared.verb.CacheWord.TheVariants as cache_verb
use Rattle.kc_script_verbs.specs.declared.verb.MvarWord.{MvarWord}
use Rattle.kc_script_verbs.specs.declared.verb.MvarWord.TheVariants as mvar_verb
use Rattle.kc_script_verbs.specs.declared.verb.PromiseWord.{PromiseWord}
use Rattle.kc_script_verbs.specs.declared.verb.PromiseWord.TheVariants as promise_verb
use Rattle.kc_script_verbs.specs.declared.verb.AccWord.{AccWord}
use Rattle.kc_script_verbs.specs.declared.verb.AccWord.TheVariants as acc_verb
use Rattle.kc_script_verbs.specs.declared.named.FunWord.{FunWord}
use Rattle.kc_script_verbs.specs.declared.named.FunWord.TheVariants as named
use Rattle.kc_script_verbs.specs.declared.verb.ObjectVerb.{ObjectVerb}
use Rattle.kc_script_verbs.specs.declared.verb.ObjectVerb.TheVariants as object_verb
use Rattle.kc_script_verbs.specs.declared.verb.Verb.{Verb}
use Rattle.kc_script_verbs.specs.declared.verb.Verb.TheVariants as verb
use Rattle.kc_script_verbs.specs.declared.word.Word.{Word}
use Rattle.kc_script_verbs.specs.declared.word.Word.TheVariants as word
use Rattle.kc_script_bundle.specs.On.{CancelIsOn, IsOn}
use Rattle.kc_script_verbs.proofs.Said.{said_on, stack_is, queue_is, table_object, table_is, cache_is, mvar_is, promise_is, acc_is}
use Rattle.kc_script_verbs.proofs.Texts.{object_verb_text, verb_text, word_has, verb_read}
use Rattle.kc_script_verbs.specs.Canonical.{Part, fun_words, rel_word, loc_words, stack_words, queue_words, table_words, hash_act, cache_words, mvar_words, promise_words, acc_words, cancel_words, words_of, IsNamed, IsNumeral, WordStands, Respells, AddsIn, IsByThread, Says}
use Rattle.kc_script_verbs.specs.declared.objects.Table.{Table}
use Rattle.kc_script_verbs.specs.declared.objects.Table.TheVariants as tables
use Rattle.kc_script_verbs.specs.Objects.{object_of, used, as_loc, as_stack, as_queue, as_table, as_cache, as_mvar, as_promise, as_acc}
use Rattle.kc_script_verbs.specs.Saying.{object_arity, arity, value_said_at, fun_named, fun_of, fun_at, rel_named, loc_named, loc_op, stack_act, queue_act, table_act, grow_act, table_op, cache_act, mvar_act, promise_act, acc_act, length_of, op_on, op_of, say, said_by, said}
use Rattle.kc_script_verbs.specs.Words.{word_of}
use Rattle.kc_script_verbs.specs.declared.saying.TheConstants.{LIVE}

-- ---- words by their places

-- the parts stand at the places from this one on
abbrev pub At : Names → List (List ℕ) → ℕ → List Part → Type 0
At names args i [] = Unit {0}
At names args i (part ∷ parts) = WordStands names part (word_at args i) × At names args (suc i) parts

later_at : (names : Names) (first : List ℕ) (args : List (List ℕ)) (i : ℕ) (parts : List Part) → At names (first ∷ args) (suc i) parts → At names args i parts
later_at names first args i [] h = tt
later_at names first args i (part ∷ parts) h = (h.0, later_at names first args (suc i) parts h.1)

earlier_at : (names : Names) (first : List ℕ) (args : List (List ℕ)) (i : ℕ) (parts : List Part) → At names args i parts → At names (first ∷ args) (suc i) parts
earlier_at names first args i [] h = tt
earlier_at names first args i (part ∷ parts) h = (h.0, earlier_at names first args (suc i) parts h.1)

pub at_respells : (names : Names) (parts : List Part) (args : List (List ℕ)) → length args ≡ length parts → At names args 0 parts → Respells names parts args
at_respells names [] [] e h = tt
at_respells names [] (w ∷ args) e h = absurd (omega (arith, e))
at_respells names (part ∷ parts) [] e h = absurd (omega (arith, e))
at_respells names (part ∷ parts) (w ∷ args) e h = (h.0, at_respells names parts args (omega (arith, e)) (later_at names w args 0 parts h.1))

pub respells_at : (names : Names) (parts : List Part) (args : List (List ℕ)) → Respells names parts args → (length args ≡ length parts) × At names args 0 parts
respells_at names [] [] h = (refl, tt)
respells_at names [] (w ∷ args) h = absurd h
respells_at names (part ∷ parts) [] h = absurd h
respells_at names (part ∷ parts) (w ∷ args) h =
    let r = respells_at names parts args h.1 in
    (omega (arith, r.0), (h.0, earlier_at names w args 0 parts r.1))

-- ---- numbers and names

pub number_is : (most : ℕ) (word : List ℕ) (n : ℕ) → most ≤ 4294967295 → number_to most word ≡ Ok n → IsNumeral n word
number_is most word n le e =
    let v = number_value most word n e in
    (v.1, sym v.0, omega (arith, le, v.0, leb-true (value_on 0 word) most v.2))

pub number_back : (most : ℕ) (word : List ℕ) (n : ℕ) → n ≤ most → IsNumeral n word → number_to most word ≡ Ok n
unfolding number_to number
number_back most word n le h =
    let small : leb (value_on 0 word) most ≡ true = le-leb (value_on 0 word) most (omega (arith, le, h.1)) in
    rw (h.0, small, h.1) refl

pub positive_is : (most : ℕ) (word : List ℕ) (n : ℕ) → most ≤ 4294967295 → positive_to most word ≡ Ok n → IsNumeral n word
unfolding positive_to
positive_is most word n le e =
    let last = λ (m : ℕ). wants (leb 1 m) BadNumber >>= λ some. given m in
    let a = bind_ok (number_to most word) last n e in
    let b = bind_ok (wants (leb 1 a.0) BadNumber) (λ some. given a.0) n a.2 in
    subst (λ m. IsNumeral m word) (ok_is _ _ b.2) (number_is most word a.0 le a.1)

pub positive_back : (most : ℕ) (word : List ℕ) (n : ℕ) → 1 ≤ n → n ≤ most → IsNumeral n word → positive_to most word ≡ Ok n
unfolding positive_to
positive_back most word n some le h = rw (number_back most word n le h, le-leb 1 n some) refl

value_is : (args : List (List ℕ)) (i n : ℕ) → value_said_at args i ≡ Ok n → IsNumeral n (word_at args i)
unfolding value_said_at
value_is args i n e = number_is 4294967295 (word_at args i) n (omega arith) e

value_back : (args : List (List ℕ)) (i n : ℕ) → IsNumeral n (word_at args i) → value_said_at args i ≡ Ok n
unfolding value_said_at
value_back args i n h = number_back 4294967295 (word_at args i) n h.2 h

used_is : (names : Names) (word : List ℕ) (o : Object) → used names word ≡ Ok o → IsNamed names word o
unfolding used
used_is names word o e = by (is_name word) refl (found_ok _ UnknownName o e) where
  by : (b : Bool) → is_name word ≡ b → cond b (object_of names word) None ≡ Some o → IsNamed names word o
  by true h f = (h, f)
  by false h f = absurd cc

used_back : (names : Names) (word : List ℕ) (o : Object) → IsNamed names word o → used names word ≡ Ok o
unfolding used
used_back names word o h = rw (h.0, h.1) refl

-- a name of an object that is a location
place_is : (names : Names) (word : List ℕ) (o : Object) (x : Loc) → as_loc o ≡ Ok x → IsNamed names word o → WordStands names (Part.place_name x) word
place_is names word (object.Loc at opens) x e h = (opens, subst (λ l. IsNamed names word (object.Loc l opens)) (ok_is _ _ e) h)
place_is names word (object.Stack a) x e h = absurd cc
place_is names word (object.Queue a) x e h = absurd cc
place_is names word (object.Mvar a) x e h = absurd cc
place_is names word (object.Promise a) x e h = absurd cc
place_is names word (object.Acc a) x e h = absurd cc
place_is names word (object.Hash a) x e h = absurd cc
place_is names word (object.Grow a) x e h = absurd cc
place_is names word (object.Cache a) x e h = absurd cc

loc_named_is : (names : Names) (word : List ℕ) (x : Loc) → loc_named names word ≡ Ok x → WordStands names (Part.place_name x) word
unfolding loc_named
loc_named_is names word x e =
    let a = bind_ok (used names word) as_loc x e in
    place_is names word a.0 x a.2 (used_is names word a.0 a.1)

loc_named_back : (names : Names) (word : List ℕ) (x : Loc) → WordStands names (Part.place_name x) word → loc_named names word ≡ Ok x
unfolding loc_named
loc_named_back names word x h = rw (used_back names word (object.Loc x h.0) h.1) refl

-- ---- functions and relations

abbrev fun_text : FunWord → List ℕ
fun_text named.Add = codes "add"
fun_text named.Max = codes "max"
fun_text named.Min = codes "min"
fun_text named.And = codes "and"
fun_text named.Or = codes "or"
fun_text named.Xor = codes "xor"

module _ (w : List ℕ) where
  abbrev Has : {V : Type 0} → (V → List ℕ) → Result V Why → Type 0
  Has {V} text r = (v : V) → r ≡ Ok v → w ≡ text v

  link : {V : Type 0} (text : V → List ℕ) (v : V) (rest : Result V Why) → Has text rest → Has text (cond (bytes_eq w (text v)) (Ok v) rest)
  link {V} text v rest more = by (bytes_eq w (text v)) (bytes_eq-Decides w (text v)).0 where
    by : (b : Bool) → (b ≡ true → w ≡ text v) → (x : V) → cond b (Ok v) rest ≡ Ok x → w ≡ text x
    by true d x e = let same : v ≡ x = cc in d refl ∙ ap text same
    by false d x e = more x e

  fun_has : Has fun_text (fun_named w)
  unfolding fun_named
  fun_has = link fun_text named.Add _ (link fun_text named.Max _ (link fun_text named.Min _ (link fun_text named.And _ (link fun_text named.Or _ (link fun_text named.Xor _ (λ v e. absurd cc))))))

  rel_has : Has rel_word (rel_named w)
  unfolding rel_named
  rel_has = link rel_word rel.Eq _ (link rel_word rel.Ne _ (link rel_word rel.Lt _ (link rel_word rel.Le _ (link rel_word rel.Gt _ (link rel_word rel.Ge _ (λ v e. absurd cc))))))

fun_read : (name : FunWord) → fun_named (fun_text name) ≡ Ok name
unfolding fun_named
fun_read named.Add = refl
fun_read named.Max = refl
fun_read named.Min = refl
fun_read named.And = refl
fun_read named.Or = refl
fun_read named.Xor = refl

rel_read : (r : Rel) → rel_named (rel_word r) ≡ Ok r
unfolding rel_named
rel_read rel.Eq = refl
rel_read rel.Ne = refl
rel_read rel.Lt = refl
rel_read rel.Le = refl
rel_read rel.Gt = refl
rel_read rel.Ge = refl

-- a function with its number has these words
fun_row : (name : FunWord) (n : ℕ) → fun_words (fun_of name n) ≡ Part.text (fun_text name) ∷ Part.numeral n ∷ []
fun_row named.Add n = refl
fun_row named.Max n = refl
fun_row named.Min n = refl
fun_row named.And n = refl
fun_row named.Or n = refl
fun_row named.Xor n = refl

fun_is : (names : Names) (args : List (List ℕ)) (f : Fun) → fun_at args ≡ Ok f → At names args 1 (fun_words f) × (length (fun_words f) ≡ 2)
unfolding fun_at
fun_is names args f e =
    let last = λ (name : FunWord) (n : ℕ). given (fun_of name n) in
    let a = bind_ok (fun_named (word_at args 1)) (λ name. value_said_at args 2 >>= last name) f e in
    let b = bind_ok (value_said_at args 2) (last a.0) f a.2 in
    subst (λ (g : Fun). At names args 1 (fun_words g) × (length (fun_words g) ≡ 2)) (ok_is _ _ b.2) (rw (fun_row a.0 b.0) ((fun_has (word_at args 1) a.0 a.1, (value_is args 2 b.0 b.1, tt)), refl))

fun_length : (f : Fun) → length (fun_words f) ≡ 2
fun_length (fun.Add n) = refl
fun_length (fun.Max n) = refl
fun_length (fun.Min n) = refl
fun_length (fun.And n) = refl
fun_length (fun.Or n) = refl
fun_length (fun.Xor n) = refl

-- each function is one of a name
fun_name : (f : Fun) → (name : FunWord) × (n : ℕ) × (fun_of name n ≡ f)
fun_name (fun.Add n) = (named.Add, n, refl)
fun_name (fun.Max n) = (named.Max, n, refl)
fun_name (fun.Min n) = (named.Min, n, refl)
fun_name (fun.And n) = (named.And, n, refl)
fun_name (fun.Or n) = (named.Or, n, refl)
fun_name (fun.Xor n) = (named.Xor, n, refl)

fun_back : (names : Names) (args : List (List ℕ)) (f : Fun) → At names args 1 (fun_words f) → fun_at args ≡ Ok f
unfolding fun_at
fun_back names args f h =
    let name = fun_name f in
    let parts : At names args 1 (Part.text (fun_text name.0) ∷ Part.numeral name.1 ∷ []) = subst (At names args 1) (ap fun_words (sym name.2) ∙ fun_row name.0 name.1) h in
    let word : fun_named (word_at args 1) ≡ Ok name.0 = ap fun_named parts.0 ∙ fun_read name.0 in
    let n : value_said_at args 2 ≡ Ok name.1 = value_back args 2 name.1 parts.1.0 in
    rw (word, n, name.2) refl

-- ---- what is read is said

-- what stands in an operation's row: the text of the word, its object's name, and the words behind it, as many as are wanted
abbrev Row : Names → List (List ℕ) → ObjectVerb → Part → List Part → Type 0
Row names args v on (Part.text t ∷ name ∷ rest) = (object_verb_text v ≡ t) × (name ≡ on) × At names args 1 rest × (suc (length rest) ≡ object_arity v)
Row names args v on _ = ⊥

row_respells : (names : Names) (v : ObjectVerb) (on : Part) (first : List ℕ) (args : List (List ℕ)) (parts : List Part) → Row names args v on parts → first ≡ object_verb_text v → WordStands names on (word_at args 0) → length args ≡ object_arity v → Respells names parts (first ∷ args)
row_respells names v on first args [] row e h count = absurd row
row_respells names v on first args (Part.text t ∷ []) row e h count = absurd row
row_respells names v on first args (Part.object_name o ∷ parts) row e h count = absurd row
row_respells names v on first args (Part.place_name x ∷ parts) row e h count = absurd row
row_respells names v on first args (Part.numeral n ∷ parts) row e h count = absurd row
row_respells names v on first args (Part.text t ∷ name ∷ rest) row e h count =
    (e ∙ row.0, at_respells names (name ∷ rest) args (omega (arith, count, row.3)) (subst (λ (p : Part). WordStands names p (word_at args 0)) (sym row.1) h, row.2))

-- what is done to a table of one kind is what is done to one of the other
hash_of_grow : (a : HashAct) → hash_act (grow_act a) ≡ a
hash_of_grow (table.Put k v) = refl
hash_of_grow (table.Find k) = refl
hash_of_grow (table.Del k) = refl
hash_of_grow table.Len = refl

grow_of_hash : (a : GrowAct) → grow_act (hash_act a) ≡ a
grow_of_hash (grow.Put k v) = refl
grow_of_hash (grow.Find k) = refl
grow_of_hash (grow.Del k) = refl
grow_of_hash grow.Len = refl

module _ {A : Type 0} (args : List (List ℕ)) (P : A → Type 0) (a : A) where
  -- made of no number, of one, of two
  of_none : (made : A) → given made ≡ Ok a → P made → P a
  of_none made e p = subst P (ok_is _ _ e) p

  of_one : (make : ℕ → A) → (value_said_at args 1 >>= λ v. given (make v)) ≡ Ok a → ((v : ℕ) → IsNumeral v (word_at args 1) → P (make v)) → P a
  of_one make e p =
      let x = bind_ok (value_said_at args 1) (λ v. given (make v)) a e in
      subst P (ok_is _ _ x.2) (p x.0 (value_is args 1 x.0 x.1))

  of_two : (make : ℕ → ℕ → A) → (value_said_at args 1 >>= λ v. value_said_at args 2 >>= λ w. given (make v w)) ≡ Ok a → ((v w : ℕ) → IsNumeral v (word_at args 1) → IsNumeral w (word_at args 2) → P (make v w)) → P a
  of_two make e p =
      let x = bind_ok (value_said_at args 1) (λ v. value_said_at args 2 >>= λ w. given (make v w)) a e in
      let y = bind_ok (value_said_at args 2) (λ w. given (make x.0 w)) a x.2 in
      subst P (ok_is _ _ y.2) (p x.0 y.0 (value_is args 1 x.0 x.1) (value_is args 2 y.0 y.1))

module _ (names : Names) (args : List (List ℕ)) where
  abbrev LocRow : LocWord → Loc → LocOp → Type 0
  LocRow w x o = Row names args (object_verb.OnLoc w) (Part.place_name x) (loc_words o)

  loc_row : (w : LocWord) (x : Loc) (o : LocOp) → loc_op names w x args ≡ Ok o → LocRow w x o
  unfolding loc_op
  loc_row loc_verb.Get x o e = of_none args (LocRow loc_verb.Get x) o _ e (refl, refl, tt, refl)
  loc_row loc_verb.Set x o e = of_one args (LocRow loc_verb.Set x) o (λ v. loc.Set x v) e (λ v n. (refl, refl, (n, tt), refl))
  loc_row loc_verb.Exchange x o e = of_one args (LocRow loc_verb.Exchange x) o (λ v. loc.Exchange x v) e (λ v n. (refl, refl, (n, tt), refl))
  loc_row loc_verb.Swap x o e =
      let y = bind_ok (loc_named names (word_at args 1)) (λ b. given (loc.Swap x b)) o e in
      subst (LocRow loc_verb.Swap x) (ok_is _ _ y.2) (refl, refl, (loc_named_is names (word_at args 1) y.0 y.1, tt), refl)
  loc_row loc_verb.Cas x o e = of_two args (LocRow loc_verb.Cas x) o (λ v w. loc.Cas x v w) e (λ v w n m. (refl, refl, (n, (m, tt)), refl))
  loc_row loc_verb.FetchAdd x o e = of_one args (LocRow loc_verb.FetchAdd x) o (λ v. loc.FetchAdd x v) e (λ v n. (refl, refl, (n, tt), refl))
  loc_row loc_verb.Incr x o e = of_none args (LocRow loc_verb.Incr x) o _ e (refl, refl, tt, refl)
  loc_row loc_verb.Decr x o e = of_none args (LocRow loc_verb.Decr x) o _ e (refl, refl, tt, refl)
  loc_row loc_verb.Update x o e =
      let f = bind_ok (fun_at args) (λ f. given (loc.Update x f)) o e in
      let is = fun_is names args f.0 f.1 in
      subst (LocRow loc_verb.Update x) (ok_is _ _ f.2) (refl, refl, is.0, ap suc is.1)
  loc_row loc_verb.Modify x o e =
      let f = bind_ok (fun_at args) (λ f. given (loc.Modify x f)) o e in
      let is = fun_is names args f.0 f.1 in
      subst (LocRow loc_verb.Modify x) (ok_is _ _ f.2) (refl, refl, is.0, ap suc is.1)
  loc_row loc_verb.Check x o e =
      let last = λ (r : Rel) (v : ℕ). given (loc.Check x r v) in
      let r = bind_ok (rel_named (word_at args 1)) (λ r. value_said_at args 2 >>= last r) o e in
      let v = bind_ok (value_said_at args 2) (last r.0) o r.2 in
      subst (LocRow loc_verb.Check x) (ok_is _ _ v.2) (refl, refl, (rel_has (word_at args 1) r.0 r.1, (value_is args 2 v.0 v.1, tt)), refl)

  abbrev StackRow : StackWord → Stack → StackAct → Type 0
  StackRow w s a = Row names args (object_verb.OnStack w) (Part.object_name (object.Stack s)) (stack_words s a)

  stack_row : (w : StackWord) (s : Stack) (a : StackAct) → stack_act w args ≡ Ok a → StackRow w s a
  unfolding stack_act
  stack_row stack_verb.Push s a e = of_one args (StackRow stack_verb.Push s) a (λ v. stack.Push v) e (λ v n. (refl, refl, (n, tt), refl))
  stack_row stack_verb.Pop s a e = of_none args (StackRow stack_verb.Pop s) a _ e (refl, refl, tt, refl)
  stack_row stack_verb.PopWait s a e = of_none args (StackRow stack_verb.PopWait s) a _ e (refl, refl, tt, refl)
  stack_row stack_verb.Top s a e = of_none args (StackRow stack_verb.Top s) a _ e (refl, refl, tt, refl)

  abbrev QueueRow : QueueWord → Queue → QueueAct → Type 0
  QueueRow w q a = Row names args (object_verb.OnQueue w) (Part.object_name (object.Queue q)) (queue_words q a)

  queue_row : (w : QueueWord) (q : Queue) (a : QueueAct) → queue_act w args ≡ Ok a → QueueRow w q a
  unfolding queue_act
  queue_row queue_verb.Enq q a e = of_one args (QueueRow queue_verb.Enq q) a (λ v. queue.Enq v) e (λ v n. (refl, refl, (n, tt), refl))
  queue_row queue_verb.Deq q a e = of_none args (QueueRow queue_verb.Deq q) a _ e (refl, refl, tt, refl)
  queue_row queue_verb.DeqWait q a e = of_none args (QueueRow queue_verb.DeqWait q) a _ e (refl, refl, tt, refl)
  queue_row queue_verb.Front q a e = of_none args (QueueRow queue_verb.Front q) a _ e (refl, refl, tt, refl)

  abbrev TableRow : TableWord → Object → HashAct → Type 0
  TableRow w x a = Row names args (object_verb.OnTable w) (Part.object_name x) (table_words x a)

  table_row : (w : TableWord) (x : Object) (a : HashAct) → table_act w args ≡ Ok a → TableRow w x a
  unfolding table_act
  table_row table_verb.Put x a e = of_two args (TableRow table_verb.Put x) a (λ k v. table.Put k v) e (λ k v n m. (refl, refl, (n, (m, tt)), refl))
  table_row table_verb.Find x a e = of_one args (TableRow table_verb.Find x) a (λ k. table.Find k) e (λ k n. (refl, refl, (n, tt), refl))
  table_row table_verb.Del x a e = of_one args (TableRow table_verb.Del x) a (λ k. table.Del k) e (λ k n. (refl, refl, (n, tt), refl))

  table_op_row : (thread : ℕ) (w : TableWord) (k : Table) (a : HashAct) → table_act w args ≡ Ok a → Row names args (object_verb.OnTable w) (Part.object_name (table_object k)) (words_of (table_op k a)) × IsByThread thread (table_op k a)
  table_op_row thread w (tables.Hash h) a e = (table_row w (object.Hash h) a e, tt)
  table_op_row thread w (tables.Grow g) a e = (subst (TableRow w (object.Grow g)) (sym (hash_of_grow a)) (table_row w (object.Grow g) a e), tt)

  abbrev CacheRow : CacheWord → Cache → CacheAct → Type 0
  CacheRow w c a = Row names args (object_verb.OnCache w) (Part.object_name (object.Cache c)) (cache_words c a)

  cache_row : (w : CacheWord) (c : Cache) (a : CacheAct) → cache_act w args ≡ Ok a → CacheRow w c a
  unfolding cache_act
  cache_row cache_verb.CPut c a e = of_two args (CacheRow cache_verb.CPut c) a (λ k v. cache.CPut k v) e (λ k v n m. (refl, refl, (n, (m, tt)), refl))
  cache_row cache_verb.CPutWait c a e = of_two args (CacheRow cache_verb.CPutWait c) a (λ k v. cache.CPutWait k v) e (λ k v n m. (refl, refl, (n, (m, tt)), refl))
  cache_row cache_verb.CGet c a e = of_one args (CacheRow cache_verb.CGet c) a (λ k. cache.CGet k) e (λ k n. (refl, refl, (n, tt), refl))
  cache_row cache_verb.CDel c a e = of_one args (CacheRow cache_verb.CDel c) a (λ k. cache.CDel k) e (λ k n. (refl, refl, (n, tt), refl))

  abbrev MvarRow : MvarWord → Mvar → MvarAct → Type 0
  MvarRow w x a = Row names args (object_verb.OnMvar w) (Part.object_name (object.Mvar x)) (mvar_words x a)

  mvar_row : (w : MvarWord) (x : Mvar) (a : MvarAct) → mvar_act w args ≡ Ok a → MvarRow w x a
  unfolding mvar_act
  mvar_row mvar_verb.Put x a e = of_one args (MvarRow mvar_verb.Put x) a (λ v. mvar.Put v) e (λ v n. (refl, refl, (n, tt), refl))
  mvar_row mvar_verb.Take x a e = of_none args (MvarRow mvar_verb.Take x) a _ e (refl, refl, tt, refl)
  mvar_row mvar_verb.Peek x a e = of_none args (MvarRow mvar_verb.Peek x) a _ e (refl, refl, tt, refl)

  abbrev PromiseRow : PromiseWord → Promise → PromiseAct → Type 0
  PromiseRow w p a = Row names args (object_verb.OnPromise w) (Part.object_name (object.Promise p)) (promise_words p a)

  promise_row : (w : PromiseWord) (p : Promise) (a : PromiseAct) → promise_act w args ≡ Ok a → PromiseRow w p a
  unfolding promise_act
  promise_row promise_verb.Resolve p a e = of_one args (PromiseRow promise_verb.Resolve p) a (λ v. promise.Resolve v) e (λ v n. (refl, refl, (n, tt), refl))
  promise_row promise_verb.Await p a e = of_none args (PromiseRow promise_verb.Await p) a _ e (refl, refl, tt, refl)
  promise_row promise_verb.IsResolved p a e = of_none args (PromiseRow promise_verb.IsResolved p) a _ e (refl, refl, tt, refl)

  abbrev AccRow : ℕ → AccWord → Accumulator → AccAct → Type 0
  AccRow thread w x a = Row names args (object_verb.OnAcc w) (Part.object_name (object.Acc x)) (acc_words x a) × AddsIn thread a

  acc_row : (thread : ℕ) (w : AccWord) (x : Accumulator) (a : AccAct) → acc_act thread w args ≡ Ok a → AccRow thread w x a
  unfolding acc_act
  acc_row thread acc_verb.Bump x a e = of_one args (AccRow thread acc_verb.Bump x) a (λ v. acc.Bump thread v) e (λ v n. ((refl, refl, (n, tt), refl), refl))
  acc_row thread acc_verb.Total x a e = of_none args (AccRow thread acc_verb.Total x) a _ e ((refl, refl, tt, refl), tt)

  -- the row of what is done to an object, and the object's name
  record Said (thread : ℕ) (v : ObjectVerb) (o : Op) : Type 0 where
    on : Part
    row : Row names args v on (words_of o)
    named : WordStands names on (word_at args 0)
    by : IsByThread thread o

  length_said : (thread : ℕ) (x : Object) (o : Op) → length_of x ≡ Ok o → IsNamed names (word_at args 0) x → Said thread object_verb.Len o
  length_said thread (object.Loc at opens) o e h = absurd cc
  length_said thread (object.Stack s) o e h = subst (Said thread object_verb.Len) (ok_is _ _ e) (record { on = Part.object_name (object.Stack s); row = (refl, refl, tt, refl); named = h; by = tt })
  length_said thread (object.Queue q) o e h = subst (Said thread object_verb.Len) (ok_is _ _ e) (record { on = Part.object_name (object.Queue q); row = (refl, refl, tt, refl); named = h; by = tt })
  length_said thread (object.Mvar x) o e h = absurd cc
  length_said thread (object.Promise p) o e h = absurd cc
  length_said thread (object.Acc a) o e h = absurd cc
  length_said thread (object.Hash x) o e h = subst (Said thread object_verb.Len) (ok_is _ _ e) (record { on = Part.object_name (object.Hash x); row = (refl, refl, tt, refl); named = h; by = tt })
  length_said thread (object.Grow x) o e h = subst (Said thread object_verb.Len) (ok_is _ _ e) (record { on = Part.object_name (object.Grow x); row = (refl, refl, tt, refl); named = h; by = tt })
  length_said thread (object.Cache c) o e h = subst (Said thread object_verb.Len) (ok_is _ _ e) (record { on = Part.object_name (object.Cache c); row = (refl, refl, tt, refl); named = h; by = tt })

  -- on an object of a kind
  kind_said : {K A : Type 0} (thread : ℕ) (v : ObjectVerb) (x : Object) (kinded : Result K Why) (act : Result A Why) (made : K → A → Op) (kind : K → Object) (o : Op) → (kinded >>= λ k. act >>= λ a. given (made k a)) ≡ Ok o → ((k : K) → kinded ≡ Ok k → kind k ≡ x) → IsNamed names (word_at args 0) x → ((k : K) (a : A) → act ≡ Ok a → Row names args v (Part.object_name (kind k)) (words_of (made k a)) × IsByThread thread (made k a)) → Said thread v o
  kind_said thread v x kinded act made kind o e is h rows =
      let k = bind_ok kinded (λ k. act >>= λ a. given (made k a)) o e in
      let a = bind_ok act (λ a. given (made k.0 a)) o k.2 in
      let r = rows k.0 a.0 a.1 in
      subst (Said thread v) (ok_is _ _ a.2) (record { on = Part.object_name (kind k.0); row = r.0; named = subst (IsNamed names (word_at args 0)) (sym (is k.0 k.1)) h; by = r.1 })

  on_said : (thread : ℕ) (v : ObjectVerb) (x : Object) (o : Op) → op_on thread names v x args ≡ Ok o → IsNamed names (word_at args 0) x → Said thread v o
  unfolding op_on
  on_said thread (object_verb.OnLoc w) x o e h =
      let l = bind_ok (as_loc x) (λ at. loc_op names w at args >>= λ y. given (op.Loc y)) o e in
      let y = bind_ok (loc_op names w l.0 args) (λ y. given (op.Loc y)) o l.2 in
      subst (Said thread (object_verb.OnLoc w)) (ok_is _ _ y.2) (record { on = Part.place_name l.0; row = loc_row w l.0 y.0 y.1; named = place_is names (word_at args 0) x l.0 l.1 h; by = tt })
  on_said thread (object_verb.OnStack w) x o e h = kind_said thread (object_verb.OnStack w) x (as_stack x) (stack_act w args) (λ k a. op.Stack (record { stack = k; act = a })) (λ k. object.Stack k) o e (stack_is x) h (λ k a f. (stack_row w k a f, tt))
  on_said thread (object_verb.OnQueue w) x o e h = kind_said thread (object_verb.OnQueue w) x (as_queue x) (queue_act w args) (λ k a. op.Queue (record { queue = k; act = a })) (λ k. object.Queue k) o e (queue_is x) h (λ k a f. (queue_row w k a f, tt))
  on_said thread (object_verb.OnTable w) x o e h = kind_said thread (object_verb.OnTable w) x (as_table x) (table_act w args) table_op table_object o e (table_is x) h (table_op_row thread w)
  on_said thread (object_verb.OnCache w) x o e h = kind_said thread (object_verb.OnCache w) x (as_cache x) (cache_act w args) (λ k a. op.Cache (record { cache = k; act = a })) (λ k. object.Cache k) o e (cache_is x) h (λ k a f. (cache_row w k a f, tt))
  on_said thread (object_verb.OnMvar w) x o e h = kind_said thread (object_verb.OnMvar w) x (as_mvar x) (mvar_act w args) (λ k a. op.Mvar (record { mvar = k; act = a })) (λ k. object.Mvar k) o e (mvar_is x) h (λ k a f. (mvar_row w k a f, tt))
  on_said thread (object_verb.OnPromise w) x o e h = kind_said thread (object_verb.OnPromise w) x (as_promise x) (promise_act w args) (λ k a. op.Promise (record { promise = k; act = a })) (λ k. object.Promise k) o e (promise_is x) h (λ k a f. (promise_row w k a f, tt))
  on_said thread (object_verb.OnAcc w) x o e h = kind_said thread (object_verb.OnAcc w) x (as_acc x) (acc_act thread w args) (λ k a. op.Acc (record { acc = k; act = a })) (λ k. object.Acc k) o e (acc_is x) h (λ k a f. acc_row thread w k a f)
  on_said thread object_verb.Len x o e h = length_said thread x o e h

-- what is read of a command is said by its line
op_says : (thread : ℕ) (names : Names) (v : Verb) (first : List ℕ) (args : List (List ℕ)) (o : Op) → first ≡ verb_text v → length args ≡ arity v → op_of thread names v args ≡ Ok o → Says thread names (first ∷ args) o
op_says thread names (verb.On v) first args o f count e =
    let a = bind_ok (used names (word_at args 0)) (λ (x : Object). op_on thread names v x args) o e in
    let s = on_said names args thread v a.0 o a.2 (used_is names (word_at args 0) a.0 a.1) in
    (row_respells names v s.on first args (words_of o) s.row f s.named count, s.by)
op_says thread names verb.Cancel first args o f count e =
    let word = word_at args 0 in
    let a = bind_ok (positive_to MOST_THREADS word) (λ n. given (op.Cancel (record { live = LIVE; thread = n }))) o e in
    let v = positive_value MOST_THREADS word a.0 a.1 in
    let n = positive_is MOST_THREADS word a.0 (omega arith) a.1 in
    subst (Says thread names (first ∷ args)) (ok_is _ _ a.2) ((f, at_respells names (Part.numeral a.0 ∷ []) args count (n, tt)), (refl, (v.1, v.2)))

say_says : (thread : ℕ) (names : Names) (v : Verb) (first : List ℕ) (args : List (List ℕ)) (o : Op) → first ≡ verb_text v → say thread names v args ≡ Ok o → Says thread names (first ∷ args) o
unfolding say
say_says thread names v first args o f e =
    let a = bind_ok (counted (arity v) args) (λ all. op_of thread names v args) o e in
    op_says thread names v first args o f (counted_length (arity v) args a.0 a.1) a.2

pub said_says : (thread : ℕ) (names : Names) (line : List (List ℕ)) (o : Op) → said thread names line ≡ Ok o → Says thread names line o
said_says thread names [] o e = absurd cc
said_says thread names (first ∷ args) o e = by (word_of first) refl e where
  by : (w : Option Word) → word_of first ≡ w → said_by thread names w args ≡ Ok o → Says thread names (first ∷ args) o
  by None h e = absurd cc
  by (Some word.Thread) h e = absurd cc
  by (Some word.Atomic) h e = absurd cc
  by (Some word.Or) h e = absurd cc
  by (Some word.End) h e = absurd cc
  by (Some (word.Declare k)) h e = absurd cc
  by (Some (word.Say v)) h e = say_says thread names v first args o (word_has first (word.Say v) h) e

-- ---- what is said is read

pub counted_back : (count : ℕ) (args : List (List ℕ)) → length args ≡ count → counted count args ≡ given tt
counted_back count args e = by (length args) e where
  by : (n : ℕ) → n ≡ count → cond (ltb n count) (Err MissingWord) (cond (ltb count n) (Err ExtraWord) (given (tt {0}))) ≡ given tt
  by n e = grind (arith, nat_tests)

module _ (thread : ℕ) (names : Names) (line : List (List ℕ)) where
  -- the words of a command, from its word on
  abbrev Line : ObjectVerb → Part → List Part → Type 0
  Line v on rest = Respells names (Part.text (object_verb_text v) ∷ on ∷ rest) line

  back_on : (v : ObjectVerb) (on : Part) (rest : List Part) (o : Op) → Line v on rest → suc (length rest) ≡ object_arity v → ((args : List (List ℕ)) → WordStands names on (word_at args 0) → At names args 1 rest → (used names (word_at args 0) >>= λ x. op_on thread names v x args) ≡ Ok o) → said thread names line ≡ Ok o
  unfolding say
  back_on v on rest o h count act = by line h where
    by : (line : List (List ℕ)) → Respells names (Part.text (object_verb_text v) ∷ on ∷ rest) line → said thread names line ≡ Ok o
    by [] h = absurd h
    by (first ∷ args) h =
        let r = respells_at names (on ∷ rest) args h.1 in
        let word : word_of first ≡ Some (word.Say (verb.On v)) = ap word_of h.0 ∙ verb_read (verb.On v) in
        rw (word, counted_back (object_arity v) args (r.0 ∙ count)) (act args r.1.0 r.1.1)

  -- on an object
  back : (v : ObjectVerb) (x : Object) (rest : List Part) (o : Op) → Line v (Part.object_name x) rest → suc (length rest) ≡ object_arity v → ((args : List (List ℕ)) → At names args 1 rest → op_on thread names v x args ≡ Ok o) → said thread names line ≡ Ok o
  back v x rest o h count act = back_on v (Part.object_name x) rest o h count (λ args n r. rw (used_back names (word_at args 0) x n) (act args r))

  -- on a location
  loc_back : (w : LocWord) (x : Loc) (rest : List Part) (o : LocOp) → Line (object_verb.OnLoc w) (Part.place_name x) rest → suc (length rest) ≡ object_arity (object_verb.OnLoc w) → ((args : List (List ℕ)) → At names args 1 rest → loc_op names w x args ≡ Ok o) → said thread names line ≡ Ok (op.Loc o)
  unfolding op_on
  loc_back w x rest o h count act = back_on (object_verb.OnLoc w) (Part.place_name x) rest (op.Loc o) h count (λ args n r. rw (used_back names (word_at args 0) (object.Loc x n.0) n.1, act args r) refl)

  loc_read : (o : LocOp) → Respells names (loc_words o) line → said thread names line ≡ Ok (op.Loc o)
  unfolding loc_op
  loc_read (loc.Get x) h = loc_back loc_verb.Get x [] _ h refl (λ args r. refl)
  loc_read (loc.Set x v) h = loc_back loc_verb.Set x (Part.numeral v ∷ []) _ h refl (λ args r. rw (value_back args 1 v r.0) refl)
  loc_read (loc.Exchange x v) h = loc_back loc_verb.Exchange x (Part.numeral v ∷ []) _ h refl (λ args r. rw (value_back args 1 v r.0) refl)
  loc_read (loc.Swap x y) h = loc_back loc_verb.Swap x (Part.place_name y ∷ []) _ h refl (λ args r. rw (loc_named_back names (word_at args 1) y r.0) refl)
  loc_read (loc.Cas x v w) h = loc_back loc_verb.Cas x (Part.numeral v ∷ Part.numeral w ∷ []) _ h refl (λ args r. rw (value_back args 1 v r.0, value_back args 2 w r.1.0) refl)
  loc_read (loc.FetchAdd x v) h = loc_back loc_verb.FetchAdd x (Part.numeral v ∷ []) _ h refl (λ args r. rw (value_back args 1 v r.0) refl)
  loc_read (loc.Incr x) h = loc_back loc_verb.Incr x [] _ h refl (λ args r. refl)
  loc_read (loc.Decr x) h = loc_back loc_verb.Decr x [] _ h refl (λ args r. refl)
  loc_read (loc.Update x f) h = loc_back loc_verb.Update x (fun_words f) _ h (ap suc (fun_length f)) (λ args r. rw (fun_back names args f r) refl)
  loc_read (loc.Modify x f) h = loc_back loc_verb.Modify x (fun_words f) _ h (ap suc (fun_length f)) (λ args r. rw (fun_back names args f r) refl)
  loc_read (loc.Check x g v) h = loc_back loc_verb.Check x (Part.text (rel_word g) ∷ Part.numeral v ∷ []) _ h refl (λ args r. rw (r.0, rel_read g, value_back args 2 v r.1.0) refl)

  stack_read : (s : Stack) (a : StackAct) → Respells names (stack_words s a) line → said thread names line ≡ Ok (op.Stack (record { stack = s; act = a }))
  unfolding op_on stack_act
  stack_read s (stack.Push v) h = back (object_verb.OnStack stack_verb.Push) (object.Stack s) (Part.numeral v ∷ []) _ h refl (λ args r. rw (value_back args 1 v r.0) refl)
  stack_read s stack.Pop h = back (object_verb.OnStack stack_verb.Pop) (object.Stack s) [] _ h refl (λ args r. refl)
  stack_read s stack.PopWait h = back (object_verb.OnStack stack_verb.PopWait) (object.Stack s) [] _ h refl (λ args r. refl)
  stack_read s stack.Top h = back (object_verb.OnStack stack_verb.Top) (object.Stack s) [] _ h refl (λ args r. refl)
  stack_read s stack.Len h = back object_verb.Len (object.Stack s) [] _ h refl (λ args r. refl)

  queue_read : (q : Queue) (a : QueueAct) → Respells names (queue_words q a) line → said thread names line ≡ Ok (op.Queue (record { queue = q; act = a }))
  unfolding op_on queue_act
  queue_read q (queue.Enq v) h = back (object_verb.OnQueue queue_verb.Enq) (object.Queue q) (Part.numeral v ∷ []) _ h refl (λ args r. rw (value_back args 1 v r.0) refl)
  queue_read q queue.Deq h = back (object_verb.OnQueue queue_verb.Deq) (object.Queue q) [] _ h refl (λ args r. refl)
  queue_read q queue.DeqWait h = back (object_verb.OnQueue queue_verb.DeqWait) (object.Queue q) [] _ h refl (λ args r. refl)
  queue_read q queue.Front h = back (object_verb.OnQueue queue_verb.Front) (object.Queue q) [] _ h refl (λ args r. refl)
  queue_read q queue.Len h = back object_verb.Len (object.Queue q) [] _ h refl (λ args r. refl)

  -- of either kind
  table_read : (x : Object) (k : Table) (a : HashAct) → as_table x ≡ Ok k → length_of x ≡ Ok (table_op k table.Len) → Respells names (table_words x a) line → said thread names line ≡ Ok (table_op k a)
  unfolding op_on table_act
  table_read x k (table.Put key v) is long h = back (object_verb.OnTable table_verb.Put) x (Part.numeral key ∷ Part.numeral v ∷ []) _ h refl (λ args r. rw (is, value_back args 1 key r.0, value_back args 2 v r.1.0) refl)
  table_read x k (table.Find key) is long h = back (object_verb.OnTable table_verb.Find) x (Part.numeral key ∷ []) _ h refl (λ args r. rw (is, value_back args 1 key r.0) refl)
  table_read x k (table.Del key) is long h = back (object_verb.OnTable table_verb.Del) x (Part.numeral key ∷ []) _ h refl (λ args r. rw (is, value_back args 1 key r.0) refl)
  table_read x k table.Len is long h = back object_verb.Len x [] _ h refl (λ args r. long)

  mvar_read : (x : Mvar) (a : MvarAct) → Respells names (mvar_words x a) line → said thread names line ≡ Ok (op.Mvar (record { mvar = x; act = a }))
  unfolding op_on mvar_act
  mvar_read x (mvar.Put v) h = back (object_verb.OnMvar mvar_verb.Put) (object.Mvar x) (Part.numeral v ∷ []) _ h refl (λ args r. rw (value_back args 1 v r.0) refl)
  mvar_read x mvar.Take h = back (object_verb.OnMvar mvar_verb.Take) (object.Mvar x) [] _ h refl (λ args r. refl)
  mvar_read x mvar.Peek h = back (object_verb.OnMvar mvar_verb.Peek) (object.Mvar x) [] _ h refl (λ args r. refl)

  promise_read : (p : Promise) (a : PromiseAct) → Respells names (promise_words p a) line → said thread names line ≡ Ok (op.Promise (record { promise = p; act = a }))
  unfolding op_on promise_act
  promise_read p (promise.Resolve v) h = back (object_verb.OnPromise promise_verb.Resolve) (object.Promise p) (Part.numeral v ∷ []) _ h refl (λ args r. rw (value_back args 1 v r.0) refl)
  promise_read p promise.Await h = back (object_verb.OnPromise promise_verb.Await) (object.Promise p) [] _ h refl (λ args r. refl)
  promise_read p promise.IsResolved h = back (object_verb.OnPromise promise_verb.IsResolved) (object.Promise p) [] _ h refl (λ args r. refl)

  acc_read : (x : Accumulator) (a : AccAct) → Respells names (acc_words x a) line → AddsIn thread a → said thread names line ≡ Ok (op.Acc (record { acc = x; act = a }))
  unfolding op_on acc_act
  acc_read x (acc.Bump cell v) h b = back (object_verb.OnAcc acc_verb.Bump) (object.Acc x) (Part.numeral v ∷ []) _ h refl (λ args r. rw (value_back args 1 v r.0, b) refl)
  acc_read x acc.Total h b = back (object_verb.OnAcc acc_verb.Total) (object.Acc x) [] _ h refl (λ args r. refl)

  cache_read : (c : Cache) (a : CacheAct) → Respells names (cache_words c a) line → said thread names line ≡ Ok (op.Cache (record { cache = c; act = a }))
  unfolding op_on cache_act
  cache_read c (cache.CPut k v) h = back (object_verb.OnCache cache_verb.CPut) (object.Cache c) (Part.numeral k ∷ Part.numeral v ∷ []) _ h refl (λ args r. rw (value_back args 1 k r.0, value_back args 2 v r.1.0) refl)
  cache_read c (cache.CPutWait k v) h = back (object_verb.OnCache cache_verb.CPutWait) (object.Cache c) (Part.numeral k ∷ Part.numeral v ∷ []) _ h refl (λ args r. rw (value_back args 1 k r.0, value_back args 2 v r.1.0) refl)
  cache_read c (cache.CGet k) h = back (object_verb.OnCache cache_verb.CGet) (object.Cache c) (Part.numeral k ∷ []) _ h refl (λ args r. rw (value_back args 1 k r.0) refl)
  cache_read c (cache.CDel k) h = back (object_verb.OnCache cache_verb.CDel) (object.Cache c) (Part.numeral k ∷ []) _ h refl (λ args r. rw (value_back args 1 k r.0) refl)
  cache_read c cache.Len h = back object_verb.Len (object.Cache c) [] _ h refl (λ args r. refl)

  cancel_read : (c : Cancel) → Respells names (cancel_words c) line → CancelIsOn c → said thread names line ≡ Ok (op.Cancel c)
  unfolding say
  cancel_read c h on = by line h where
    by : (line : List (List ℕ)) → Respells names (cancel_words c) line → said thread names line ≡ Ok (op.Cancel c)
    by [] h = absurd h
    by (first ∷ args) h =
        let r = respells_at names (Part.numeral c.thread ∷ []) args h.1 in
        let word : word_of first ≡ Some (word.Say verb.Cancel) = ap word_of h.0 ∙ verb_read verb.Cancel in
        rw (word, counted_back 1 args r.0, positive_back MOST_THREADS (word_at args 0) c.thread on.1.0 on.1.1 r.1.0) (ap (λ (at : ℕ). given (op.Cancel (record { live = record { 0 = at }; thread = c.thread }))) (sym on.0))

  says_read : (o : Op) → Says thread names line o → said thread names line ≡ Ok o
  says_read (op.Loc o) h = loc_read o h.0
  says_read (op.Stack o) h = stack_read o.stack o.act h.0
  says_read (op.Queue o) h = queue_read o.queue o.act h.0
  says_read (op.Mvar o) h = mvar_read o.mvar o.act h.0
  says_read (op.Promise o) h = promise_read o.promise o.act h.0
  says_read (op.Acc o) h = acc_read o.acc o.act h.0 h.1
  says_read (op.Hash o) h = table_read (object.Hash o.hash) (tables.Hash o.hash) o.act refl refl h.0
  says_read (op.Grow o) h = table_read (object.Grow o.grow) (tables.Grow o.grow) (hash_act o.act) refl refl h.0 ∙ ap (λ a. given (op.Grow (record { grow = o.grow; act = a }))) (grow_of_hash o.act)
  says_read (op.Cache o) h = cache_read o.cache o.act h.0
  says_read (op.Cancel c) h = cancel_read c h.0 h.1

pub says_said : (thread : ℕ) (names : Names) (line : List (List ℕ)) (o : Op) → Says thread names line o → said thread names line ≡ Ok o
says_said = says_read

-- a line says at most one operation
pub says_one : (thread : ℕ) (names : Names) (line : List (List ℕ)) (o p : Op) → Says thread names line o → Says thread names line p → o ≡ p
says_one thread names line o p h k = ok_is _ _ (sym (says_said thread names line o h) ∙ says_said thread names line p k)

-- an operation that is said is on an object that has a name
pub says_on : (thread : ℕ) (names : Names) (line : List (List ℕ)) (o : Op) → Says thread names line o → IsOn names o
says_on thread names line o h = said_on thread names line o (says_said thread names line o h)
