-- What is wrong with a declaration or a command is the first of its tests that fails.
use Rattle.std.proofs.Common.{◌≡◌, ℕ, suc, ◌+◌, ◌≤◌, Bool, true, false, ◌&&◌, not, cond, leb, List, [], ◌∷◌, ◌++◌, length, drop, Option, Some, None, Result, Ok, Err, refl, sym, ap, subst, ◌∙◌, append_assoc, arith}
use Rattle.std.specs.Prelude.{is_some, codes}
use Rattle.std.specs.Str.{bytes_eq}
use Rattle.std.proofs.lemmas.Bool.{le-leb, leb-true}
use Rattle.kc_script_bundle.specs.declared.bundle.TheConstants.{MOST_THREADS}
use Rattle.kc_script_bundle.specs.declared.object.Object.{Object}
use Rattle.kc_script_lines.proofs.Faults.{then_fault, Tested, made_fault, counted_fault, counted_length, number_fault, positive_fault, positive_value}
use Rattle.kc_script_lines.proofs.Given.{given, bind_ok, ok_is}
use Rattle.kc_script_lines.specs.Tests.{◌>>=◌, wants, found, counted, word_at, number_to, positive_to, first_failing, fault_of, count_tests, is_number}
use Rattle.kc_script_lines.specs.Words.{is_name, value_on}
use Rattle.kc_script_lines.specs.declared.fault.Limit.TheVariants.{Locations}
use Rattle.kc_script_lines.specs.declared.fault.Why.{Why}
use Rattle.kc_script_lines.specs.declared.fault.Why.TheVariants.{UnknownWord, UnknownName, RepeatedName, BadName, BadNumber, WrongKind, TooMany}
use Rattle.kc_script_bundle.specs.declared.object.Object.TheVariants as object
use Rattle.kc_model.specs.declared.footprint.Loc.{Loc}
use Rattle.kc_script_bundle.specs.Script.{Names, cells}
use Rattle.kc_script_verbs.specs.declared.verb.LocWord.{LocWord}
use Rattle.kc_script_verbs.specs.declared.verb.LocWord.TheVariants as loc_verb
use Rattle.kc_script_verbs.specs.declared.verb.StackWord.{StackWord}
use Rattle.kc_script_verbs.specs.declared.verb.StackWord.TheVariants as stack_verb
use Rattle.kc_script_verbs.specs.declared.verb.QueueWord.{QueueWord}
use Rattle.kc_script_verbs.specs.declared.verb.QueueWord.TheVariants as queue_verb
use Rattle.kc_script_verbs.specs.declared.verb.TableWord.{TableWord}
use Rattle.kc_script_verbs.specs.declared.verb.TableWord.TheVariants as table_verb
use Rattle.kc_script_verbs.specs.declared.verb.CacheWord.{CacheWord}
use Rattle.kc_script_verbs.specs.declared.verb.CacheWord.TheVariants as cache_verb
use Rattle.kc_script_verbs.specs.declared.verb.MvarWord.{MvarWord}
use Rattle.kc_script_verbs.specs.declared.verb.MvarWord.TheVariants as mvar_verb
use Rattle.kc_script_verbs.specs.declared.verb.PromiseWord.{PromiseWord}
use Rattle.kc_script_verbs.specs.declared.verb.PromiseWord.TheVariants as promise_verb
use Rattle.kc_script_verbs.specs.declared.verb.AccWord.{AccWord}
use Rattle.kc_script_verbs.specs.declared.verb.AccWord.TheVariants as acc_verb
use Rattle.kc_script_verbs.specs.declared.verb.ObjectVerb.{ObjectVerb}
use Rattle.kc_script_verbs.specs.declared.verb.ObjectVerb.TheVariants as object_verb
use Rattle.kc_script_verbs.specs.declared.verb.Verb.{Verb}
use Rattle.kc_script_verbs.specs.declared.verb.Verb.TheVariants as verb
use Rattle.kc_script_verbs.specs.declared.word.Kind.{Kind}
use Rattle.kc_script_verbs.specs.declared.word.Kind.TheVariants as kind
use Rattle.kc_script_verbs.specs.Declaring.{fields, tested, at_most, laid, loc_at, stack_at, queue_at, table_at, grow_at, cache_at, mvar_at, promise_at, acc_at, object_at, next_location, declare}
use Rattle.kc_script_verbs.specs.Fields.{Field, kind_fields, number_at, declared_size, is_loc, is_stack, is_queue, is_table, is_cache, is_mvar, is_promise, is_acc, has_length, loc_fields, stack_fields, queue_fields, table_fields, cache_fields, mvar_fields, promise_fields, acc_fields, object_fields, verb_fields, Kinds, object_kind, kinds_of, kind_named, is_such, is_among, functions, relations, field_tests, word_tests, args_tests}
use Rattle.kc_script_verbs.specs.Objects.{object_of, new_name, used, as_loc, as_stack, as_queue, as_table, as_cache, as_mvar, as_promise, as_acc}
use Rattle.kc_script_verbs.specs.Saying.{arity, value_said_at, fun_named, fun_at, rel_named, loc_named, loc_op, stack_act, queue_act, table_act, cache_act, mvar_act, promise_act, acc_act, length_of, op_on, op_of, say}

-- ---- words by their places

-- the tests of the words from a place on
abbrev tests_from : Kinds → List (List ℕ) → ℕ → List Field → List (Bool × Why)
tests_from names args i [] = []
tests_from names args i (field ∷ more) = field_tests names field (word_at args i) ++ tests_from names args (suc i) more

later_tests : (names : Kinds) (first : List ℕ) (args : List (List ℕ)) (i : ℕ) (all : List Field) → tests_from names (first ∷ args) (suc i) all ≡ tests_from names args i all
later_tests names first args i [] = refl
later_tests names first args i (field ∷ more) = ap (λ rest. field_tests names field (word_at args i) ++ rest) (later_tests names first args (suc i) more)

placed_tests : (names : Kinds) (all : List Field) (args : List (List ℕ)) → length args ≡ length all → tests_from names args 0 all ≡ word_tests names all args
placed_tests names [] args e = refl
placed_tests names (field ∷ more) [] e = absurd (omega (arith, e))
placed_tests names (field ∷ more) (word ∷ args) e = ap (λ rest. field_tests names field word ++ rest) (later_tests names word args 0 more ∙ placed_tests names more args (omega (arith, e)))

-- ---- names

-- a name has the kind of its object
abbrev kind_in : Option Object → Option Kind
kind_in None = None
kind_in (Some o) = Some (object_kind o)

kind_is : (names : Names) (name : List ℕ) → kind_named (kinds_of names) name ≡ kind_in (object_of names name)
kind_is [] name = refl
kind_is (entry ∷ names) name = by (bytes_eq name entry.0) (kind_is names name) where
  by : (b : Bool) → kind_named (kinds_of names) name ≡ kind_in (object_of names name) → cond b (Some (object_kind entry.1)) (kind_named (kinds_of names) name) ≡ kind_in (cond b (Some entry.1) (object_of names name))
  by true e = refl
  by false e = e

-- a name that is declared
new_fault : (names : Names) (name : List ℕ) → Tested (new_name names name) (field_tests (kinds_of names) Field.new name)
unfolding new_name
new_fault names name = record { same = rw (kind_is names name) (by (is_name name) (object_of names name)) } where
  by : (b : Bool) (o : Option Object) → fault_of (wants b BadName >>= λ good. wants (not (is_some o)) RepeatedName >>= λ new. given name) ≡ first_failing ((b, BadName) ∷ (not (is_some (kind_in o)), RepeatedName) ∷ [])
  by true None = refl
  by true (Some o) = refl
  by false o = refl

-- a name that is used, and what is done with its object
used_fault : {A : Type 0} (names : Names) (has : Kind → Bool) (name : List ℕ) (f : Object → Result A Why) (rest : List (Bool × Why)) → ((o : Object) → Tested (f o) ((has (object_kind o), WrongKind) ∷ rest)) → Tested (used names name >>= f) (field_tests (kinds_of names) (Field.used has) name ++ rest)
unfolding used
used_fault {A} names has name f rest more = record { same = rw (kind_is names name) (by (is_name name) (object_of names name)) } where
  by : (b : Bool) (o : Option Object) → fault_of (found (cond b o None) UnknownName >>= f) ≡ first_failing ((b && is_some (kind_in o), UnknownName) ∷ (is_such has (kind_in o), WrongKind) ∷ rest)
  by true None = refl
  by true (Some o) = (more o).same
  by false o = refl

-- ---- numbers, functions, relations

value_fault : (args : List (List ℕ)) (i : ℕ) → Tested (value_said_at args i) ((is_number 0 4294967295 (word_at args i), BadNumber) ∷ [])
unfolding value_said_at
value_fault args i = number_fault 4294967295 (word_at args i)

-- one of six words
among : {A : Type 0} (a b d e f g : Bool) (va vb vd ve vf vg : A) → Tested (cond a (given va) (cond b (Ok vb) (cond d (Ok vd) (cond e (Ok ve) (cond f (Ok vf) (cond g (Ok vg) (Err UnknownWord))))))) ((cond a true (cond b true (cond d true (cond e true (cond f true (cond g true false))))), UnknownWord) ∷ [])
among true b d e f g va vb vd ve vf vg = record { same = refl }
among false true d e f g va vb vd ve vf vg = record { same = refl }
among false false true e f g va vb vd ve vf vg = record { same = refl }
among false false false true f g va vb vd ve vf vg = record { same = refl }
among false false false false true g va vb vd ve vf vg = record { same = refl }
among false false false false false true va vb vd ve vf vg = record { same = refl }
among false false false false false false va vb vd ve vf vg = record { same = refl }

fun_fault : (w : List ℕ) → Tested (fun_named w) ((is_among w functions, UnknownWord) ∷ [])
unfolding fun_named
fun_fault w = among (bytes_eq w (codes "add")) (bytes_eq w (codes "max")) (bytes_eq w (codes "min")) (bytes_eq w (codes "and")) (bytes_eq w (codes "or")) (bytes_eq w (codes "xor")) _ _ _ _ _ _

rel_fault : (w : List ℕ) → Tested (rel_named w) ((is_among w relations, UnknownWord) ∷ [])
unfolding rel_named
rel_fault w = among (bytes_eq w (codes "eq")) (bytes_eq w (codes "ne")) (bytes_eq w (codes "lt")) (bytes_eq w (codes "le")) (bytes_eq w (codes "gt")) (bytes_eq w (codes "ge")) _ _ _ _ _ _

-- ---- kinds

loc_kind : (o : Object) → Tested (as_loc o) ((is_loc (object_kind o), WrongKind) ∷ [])
loc_kind (object.Loc at value) = record { same = refl }
loc_kind (object.Stack s) = record { same = refl }
loc_kind (object.Queue q) = record { same = refl }
loc_kind (object.Mvar x) = record { same = refl }
loc_kind (object.Promise p) = record { same = refl }
loc_kind (object.Acc a) = record { same = refl }
loc_kind (object.Hash h) = record { same = refl }
loc_kind (object.Grow g) = record { same = refl }
loc_kind (object.Cache c) = record { same = refl }

stack_kind : (o : Object) → Tested (as_stack o) ((is_stack (object_kind o), WrongKind) ∷ [])
stack_kind (object.Loc at value) = record { same = refl }
stack_kind (object.Stack s) = record { same = refl }
stack_kind (object.Queue q) = record { same = refl }
stack_kind (object.Mvar x) = record { same = refl }
stack_kind (object.Promise p) = record { same = refl }
stack_kind (object.Acc a) = record { same = refl }
stack_kind (object.Hash h) = record { same = refl }
stack_kind (object.Grow g) = record { same = refl }
stack_kind (object.Cache c) = record { same = refl }

queue_kind : (o : Object) → Tested (as_queue o) ((is_queue (object_kind o), WrongKind) ∷ [])
queue_kind (object.Loc at value) = record { same = refl }
queue_kind (object.Stack s) = record { same = refl }
queue_kind (object.Queue q) = record { same = refl }
queue_kind (object.Mvar x) = record { same = refl }
queue_kind (object.Promise p) = record { same = refl }
queue_kind (object.Acc a) = record { same = refl }
queue_kind (object.Hash h) = record { same = refl }
queue_kind (object.Grow g) = record { same = refl }
queue_kind (object.Cache c) = record { same = refl }

table_kind : (o : Object) → Tested (as_table o) ((is_table (object_kind o), WrongKind) ∷ [])
table_kind (object.Loc at value) = record { same = refl }
table_kind (object.Stack s) = record { same = refl }
table_kind (object.Queue q) = record { same = refl }
table_kind (object.Mvar x) = record { same = refl }
table_kind (object.Promise p) = record { same = refl }
table_kind (object.Acc a) = record { same = refl }
table_kind (object.Hash h) = record { same = refl }
table_kind (object.Grow g) = record { same = refl }
table_kind (object.Cache c) = record { same = refl }

cache_kind : (o : Object) → Tested (as_cache o) ((is_cache (object_kind o), WrongKind) ∷ [])
cache_kind (object.Loc at value) = record { same = refl }
cache_kind (object.Stack s) = record { same = refl }
cache_kind (object.Queue q) = record { same = refl }
cache_kind (object.Mvar x) = record { same = refl }
cache_kind (object.Promise p) = record { same = refl }
cache_kind (object.Acc a) = record { same = refl }
cache_kind (object.Hash h) = record { same = refl }
cache_kind (object.Grow g) = record { same = refl }
cache_kind (object.Cache c) = record { same = refl }

mvar_kind : (o : Object) → Tested (as_mvar o) ((is_mvar (object_kind o), WrongKind) ∷ [])
mvar_kind (object.Loc at value) = record { same = refl }
mvar_kind (object.Stack s) = record { same = refl }
mvar_kind (object.Queue q) = record { same = refl }
mvar_kind (object.Mvar x) = record { same = refl }
mvar_kind (object.Promise p) = record { same = refl }
mvar_kind (object.Acc a) = record { same = refl }
mvar_kind (object.Hash h) = record { same = refl }
mvar_kind (object.Grow g) = record { same = refl }
mvar_kind (object.Cache c) = record { same = refl }

promise_kind : (o : Object) → Tested (as_promise o) ((is_promise (object_kind o), WrongKind) ∷ [])
promise_kind (object.Loc at value) = record { same = refl }
promise_kind (object.Stack s) = record { same = refl }
promise_kind (object.Queue q) = record { same = refl }
promise_kind (object.Mvar x) = record { same = refl }
promise_kind (object.Promise p) = record { same = refl }
promise_kind (object.Acc a) = record { same = refl }
promise_kind (object.Hash h) = record { same = refl }
promise_kind (object.Grow g) = record { same = refl }
promise_kind (object.Cache c) = record { same = refl }

acc_kind : (o : Object) → Tested (as_acc o) ((is_acc (object_kind o), WrongKind) ∷ [])
acc_kind (object.Loc at value) = record { same = refl }
acc_kind (object.Stack s) = record { same = refl }
acc_kind (object.Queue q) = record { same = refl }
acc_kind (object.Mvar x) = record { same = refl }
acc_kind (object.Promise p) = record { same = refl }
acc_kind (object.Acc a) = record { same = refl }
acc_kind (object.Hash h) = record { same = refl }
acc_kind (object.Grow g) = record { same = refl }
acc_kind (object.Cache c) = record { same = refl }

length_kind : (o : Object) → Tested (length_of o) ((has_length (object_kind o), WrongKind) ∷ [])
length_kind (object.Loc at value) = record { same = refl }
length_kind (object.Stack s) = record { same = refl }
length_kind (object.Queue q) = record { same = refl }
length_kind (object.Mvar x) = record { same = refl }
length_kind (object.Promise p) = record { same = refl }
length_kind (object.Acc a) = record { same = refl }
length_kind (object.Hash h) = record { same = refl }
length_kind (object.Grow g) = record { same = refl }
length_kind (object.Cache c) = record { same = refl }

-- ---- what stands behind the name

module _ {A : Type 0} (args : List (List ℕ)) where
  -- one number
  one_value : (make : ℕ → A) → Tested (value_said_at args 1 >>= λ v. Ok (make v)) ((is_number 0 4294967295 (word_at args 1), BadNumber) ∷ [])
  one_value make = made_fault (value_said_at args 1) make _ (value_fault args 1)

  -- two numbers
  two_values : (make : ℕ → ℕ → A) → Tested (value_said_at args 1 >>= λ v. value_said_at args 2 >>= λ w. Ok (make v w)) ((is_number 0 4294967295 (word_at args 1), BadNumber) ∷ (is_number 0 4294967295 (word_at args 2), BadNumber) ∷ [])
  two_values make = then_fault (value_said_at args 1) (λ v. value_said_at args 2 >>= λ w. Ok (make v w)) _ ((is_number 0 4294967295 (word_at args 2), BadNumber) ∷ []) (value_fault args 1) (λ v e. made_fault (value_said_at args 2) (make v) _ (value_fault args 2))

fun_at_fault : (args : List (List ℕ)) → Tested (fun_at args) ((is_among (word_at args 1) functions, UnknownWord) ∷ (is_number 0 4294967295 (word_at args 2), BadNumber) ∷ [])
unfolding fun_at
fun_at_fault args = then_fault (fun_named (word_at args 1)) _ _ ((is_number 0 4294967295 (word_at args 2), BadNumber) ∷ []) (fun_fault (word_at args 1)) (λ f e. made_fault (value_said_at args 2) _ _ (value_fault args 2))

module _ (names : Names) (args : List (List ℕ)) where
  loc_fault : (w : LocWord) (at : Loc) → Tested (loc_op names w at args) (tests_from (kinds_of names) args 1 (loc_fields w))
  unfolding loc_op loc_named
  loc_fault loc_verb.Get at = record { same = refl }
  loc_fault loc_verb.Set at = one_value args _
  loc_fault loc_verb.Exchange at = one_value args _
  loc_fault loc_verb.Swap at = made_fault (used names (word_at args 1) >>= as_loc) _ _ (used_fault names is_loc (word_at args 1) as_loc [] loc_kind)
  loc_fault loc_verb.Cas at = two_values args _
  loc_fault loc_verb.FetchAdd at = one_value args _
  loc_fault loc_verb.Incr at = record { same = refl }
  loc_fault loc_verb.Decr at = record { same = refl }
  loc_fault loc_verb.Update at = made_fault (fun_at args) _ _ (fun_at_fault args)
  loc_fault loc_verb.Modify at = made_fault (fun_at args) _ _ (fun_at_fault args)
  loc_fault loc_verb.Check at = then_fault (rel_named (word_at args 1)) _ _ ((is_number 0 4294967295 (word_at args 2), BadNumber) ∷ []) (rel_fault (word_at args 1)) (λ r e. made_fault (value_said_at args 2) _ _ (value_fault args 2))

  stack_fault : (w : StackWord) → Tested (stack_act w args) (tests_from (kinds_of names) args 1 (stack_fields w))
  unfolding stack_act
  stack_fault stack_verb.Push = one_value args _
  stack_fault stack_verb.Pop = record { same = refl }
  stack_fault stack_verb.PopWait = record { same = refl }
  stack_fault stack_verb.Top = record { same = refl }

  queue_fault : (w : QueueWord) → Tested (queue_act w args) (tests_from (kinds_of names) args 1 (queue_fields w))
  unfolding queue_act
  queue_fault queue_verb.Enq = one_value args _
  queue_fault queue_verb.Deq = record { same = refl }
  queue_fault queue_verb.DeqWait = record { same = refl }
  queue_fault queue_verb.Front = record { same = refl }

  table_fault : (w : TableWord) → Tested (table_act w args) (tests_from (kinds_of names) args 1 (table_fields w))
  unfolding table_act
  table_fault table_verb.Put = two_values args _
  table_fault table_verb.Find = one_value args _
  table_fault table_verb.Del = one_value args _

  cache_fault : (w : CacheWord) → Tested (cache_act w args) (tests_from (kinds_of names) args 1 (cache_fields w))
  unfolding cache_act
  cache_fault cache_verb.CPut = two_values args _
  cache_fault cache_verb.CPutWait = two_values args _
  cache_fault cache_verb.CGet = one_value args _
  cache_fault cache_verb.CDel = one_value args _

  mvar_fault : (w : MvarWord) → Tested (mvar_act w args) (tests_from (kinds_of names) args 1 (mvar_fields w))
  unfolding mvar_act
  mvar_fault mvar_verb.Put = one_value args _
  mvar_fault mvar_verb.Take = record { same = refl }
  mvar_fault mvar_verb.Peek = record { same = refl }

  promise_fault : (w : PromiseWord) → Tested (promise_act w args) (tests_from (kinds_of names) args 1 (promise_fields w))
  unfolding promise_act
  promise_fault promise_verb.Resolve = one_value args _
  promise_fault promise_verb.Await = record { same = refl }
  promise_fault promise_verb.IsResolved = record { same = refl }

  acc_fault : (thread : ℕ) (w : AccWord) → Tested (acc_act thread w args) (tests_from (kinds_of names) args 1 (acc_fields w))
  unfolding acc_act
  acc_fault thread acc_verb.Bump = one_value args _
  acc_fault thread acc_verb.Total = record { same = refl }

  -- what is done to the object of the first name
  on_fault : (thread : ℕ) (v : ObjectVerb) → Tested (used names (word_at args 0) >>= λ o. op_on thread names v o args) (tests_from (kinds_of names) args 0 (object_fields v))
  unfolding op_on
  on_fault thread (object_verb.OnLoc w) = used_fault names is_loc (word_at args 0) _ _ (λ o. then_fault (as_loc o) _ _ _ (loc_kind o) (λ at e. made_fault (loc_op names w at args) _ _ (loc_fault w at)))
  on_fault thread (object_verb.OnStack w) = used_fault names is_stack (word_at args 0) _ _ (λ o. then_fault (as_stack o) _ _ _ (stack_kind o) (λ s e. made_fault (stack_act w args) _ _ (stack_fault w)))
  on_fault thread (object_verb.OnQueue w) = used_fault names is_queue (word_at args 0) _ _ (λ o. then_fault (as_queue o) _ _ _ (queue_kind o) (λ q e. made_fault (queue_act w args) _ _ (queue_fault w)))
  on_fault thread (object_verb.OnTable w) = used_fault names is_table (word_at args 0) _ _ (λ o. then_fault (as_table o) _ _ _ (table_kind o) (λ h e. made_fault (table_act w args) _ _ (table_fault w)))
  on_fault thread (object_verb.OnCache w) = used_fault names is_cache (word_at args 0) _ _ (λ o. then_fault (as_cache o) _ _ _ (cache_kind o) (λ c e. made_fault (cache_act w args) _ _ (cache_fault w)))
  on_fault thread (object_verb.OnMvar w) = used_fault names is_mvar (word_at args 0) _ _ (λ o. then_fault (as_mvar o) _ _ _ (mvar_kind o) (λ x e. made_fault (mvar_act w args) _ _ (mvar_fault w)))
  on_fault thread (object_verb.OnPromise w) = used_fault names is_promise (word_at args 0) _ _ (λ o. then_fault (as_promise o) _ _ _ (promise_kind o) (λ p e. made_fault (promise_act w args) _ _ (promise_fault w)))
  on_fault thread (object_verb.OnAcc w) = used_fault names is_acc (word_at args 0) _ _ (λ o. then_fault (as_acc o) _ _ _ (acc_kind o) (λ x e. made_fault (acc_act thread w args) _ _ (acc_fault thread w)))
  on_fault thread object_verb.Len = used_fault names has_length (word_at args 0) length_of [] length_kind

  op_fault : (thread : ℕ) (v : Verb) → Tested (op_of thread names v args) (tests_from (kinds_of names) args 0 (verb_fields v))
  op_fault thread (verb.On v) = on_fault thread v
  op_fault thread verb.Cancel = made_fault (positive_to MOST_THREADS (word_at args 0)) _ _ (positive_fault MOST_THREADS (word_at args 0))

-- ---- a command

pub say_fault : (thread : ℕ) (names : Names) (v : Verb) (args : List (List ℕ)) → Tested (say thread names v args) (args_tests (kinds_of names) (verb_fields v) args)
unfolding say
say_fault thread names v args =
    then_fault (counted (arity v) args) (λ all. op_of thread names v args) (count_tests (arity v) args) (word_tests (kinds_of names) (verb_fields v) args)
    (counted_fault (arity v) args)
    (λ all e. subst (Tested (op_of thread names v args)) (placed_tests (kinds_of names) (verb_fields v) args (counted_length (arity v) args all e)) (op_fault names args thread v))

-- ---- a declaration

tested_fault : {A : Type 0} (n most : ℕ) (why : Why) (go : n ≤ most → Result A Why) (rest : List (Bool × Why)) → ((le : n ≤ most) → Tested (go le) rest) → (t : Bool) (e : leb n most ≡ t) → Tested (tested n most why go t e) ((t, why) ∷ rest)
tested_fault n most why go rest more true e = record { same = (more (leb-true n most e)).same }
tested_fault n most why go rest more false e = record { same = refl }

-- an object, where its cells have room
laid_fault : (n m : ℕ) (make : n ≤ 65536 → Object) → n ≡ m → Tested (laid n make) ((leb m 65536, TooMany Locations) ∷ [])
unfolding at_most
laid_fault n m make e = subst (λ x. Tested (laid n make) ((leb x 65536, TooMany Locations) ∷ [])) e (tested_fault n 65536 (TooMany Locations) (λ room. Ok (make room)) [] (λ le. record { same = refl }) (leb n 65536) refl)

-- an object of at least one cell
some_fault : (n : ℕ) (go : 1 ≤ n → Result Object Why) (rest : List (Bool × Why)) → 1 ≤ n → ((le : 1 ≤ n) → Tested (go le) rest) → Tested (at_most 1 n BadNumber go) rest
unfolding at_most
some_fault n go rest some more = record { same = (tested_fault 1 n BadNumber go rest more (leb 1 n) refl).same ∙ ap (λ t. first_failing ((t, BadNumber) ∷ rest)) (le-leb 1 n some) }

-- a size, and what follows it
then_sized : {A : Type 0} (most : ℕ) (w : List ℕ) (f : ℕ → Result A Why) (rest : List (Bool × Why)) → ((n : ℕ) → n ≡ value_on 0 w → 1 ≤ n → Tested (f n) rest) → Tested (positive_to most w >>= f) ((is_number 1 most w, BadNumber) ∷ rest)
then_sized most w f rest more = then_fault (positive_to most w) f _ rest (positive_fault most w) (λ n e. let v = positive_value most w n e in more n v.0 v.1)

module _ (at : ℕ) (args : List (List ℕ)) where
  object_fault : (names : Kinds) (k : Kind) → Tested (object_at at k args) (tests_from names args 1 (drop 1 (kind_fields k)) ++ (leb (at + declared_size k args) 65536, TooMany Locations) ∷ [])
  unfolding object_at loc_at stack_at queue_at table_at grow_at cache_at mvar_at promise_at acc_at
  object_fault names kind.Loc = then_fault (number_to 4294967295 (word_at args 1)) (loc_at at) _ _ (number_fault 4294967295 (word_at args 1)) (λ n e. laid_fault _ _ _ refl)
  object_fault names kind.Stack = then_sized 4096 (word_at args 1) (stack_at at) _ (λ n v some. laid_fault _ _ _ (omega (arith, v)))
  object_fault names kind.Queue = then_sized 4096 (word_at args 1) (queue_at at) _ (λ n v some. some_fault n _ _ some (λ le. laid_fault _ _ _ (omega (arith, v))))
  object_fault names kind.Table = then_sized 1024 (word_at args 1) _ _ (λ b u some. then_sized 4096 (word_at args 2) (table_at at b) _ (λ n v more. some_fault b _ _ some (λ le. some_fault n _ _ more (λ ge. laid_fault _ _ _ (omega (arith, u, v))))))
  object_fault names kind.Grow = then_sized 4096 (word_at args 1) (grow_at at) _ (λ n v some. some_fault n _ _ some (λ le. laid_fault _ _ _ (omega (arith, v))))
  object_fault names kind.Cache = then_sized 1024 (word_at args 1) _ _ (λ b u some. then_sized 4096 (word_at args 2) (cache_at at b) _ (λ n v more. some_fault b _ _ some (λ le. some_fault n _ _ more (λ ge. laid_fault _ _ _ (omega (arith, u, v))))))
  object_fault names kind.Mvar = laid_fault _ _ _ refl
  object_fault names kind.Promise = laid_fault _ _ _ refl
  object_fault names kind.Acc = then_sized 32 (word_at args 1) (acc_at at) _ (λ n v some. some_fault n _ _ some (λ le. laid_fault _ _ _ (omega (arith, v))))

-- its name, and the words behind it
first_new : (names : Kinds) (args : List (List ℕ)) (k : Kind) → tests_from names args 0 (kind_fields k) ≡ field_tests names Field.new (word_at args 0) ++ tests_from names args 1 (drop 1 (kind_fields k))
first_new names args kind.Loc = refl
first_new names args kind.Stack = refl
first_new names args kind.Queue = refl
first_new names args kind.Table = refl
first_new names args kind.Grow = refl
first_new names args kind.Cache = refl
first_new names args kind.Mvar = refl
first_new names args kind.Promise = refl
first_new names args kind.Acc = refl

pub declare_fault : (names : Names) (k : Kind) (args : List (List ℕ)) → Tested (declare names k args) (args_tests (kinds_of names) (kind_fields k) args ++ (leb (next_location names + declared_size k args) 65536, TooMany Locations) ∷ [])
unfolding declare
declare_fault names k args =
    let limit : List (Bool × Why) = (leb (next_location names + declared_size k args) 65536, TooMany Locations) ∷ [] in
    let named = field_tests (kinds_of names) Field.new (word_at args 0) in
    let later = tests_from (kinds_of names) args 1 (drop 1 (kind_fields k)) in
    let behind = λ (name : List ℕ). object_at (next_location names) k args >>= λ o. given (name, o) in
    let words = λ (e : length args ≡ length (kind_fields k)). sym (placed_tests (kinds_of names) (kind_fields k) args e) ∙ first_new (kinds_of names) args k in
    subst (Tested (declare names k args)) (sym (append_assoc (count_tests (length (kind_fields k)) args) (word_tests (kinds_of names) (kind_fields k) args) limit))
    (then_fault (counted (fields k) args) (λ all. new_name names (word_at args 0) >>= behind) (count_tests (length (kind_fields k)) args) (word_tests (kinds_of names) (kind_fields k) args ++ limit) (counted_fault (fields k) args)
    (λ all e. subst (λ tests. Tested (new_name names (word_at args 0) >>= behind) (tests ++ limit)) (sym (words (counted_length (fields k) args all e)))
    (then_fault (new_name names (word_at args 0)) behind named (later ++ limit) (new_fault names (word_at args 0)) (λ name new. made_fault (object_at (next_location names) k args) (λ o. (name, o)) (later ++ limit) (object_fault (next_location names) args (kinds_of names) k)))))

-- ---- what was declared

module _ (at : ℕ) (args : List (List ℕ)) (o : Object) where
  -- an object that was laid is as it was to be made
  laid_is : (n : ℕ) (make : n ≤ 65536 → Object) (P : Object → Type 0) → ((le : n ≤ 65536) → P (make le)) → laid n make ≡ Ok o → P o
  unfolding at_most
  laid_is n make P all e = by (leb n 65536) refl e where
    by : (t : Bool) (h : leb n 65536 ≡ t) → tested n 65536 (TooMany Locations) (λ room. given (make room)) t h ≡ Ok o → P o
    by true h e = subst P (ok_is _ _ e) (all (leb-true n 65536 h))
    by false h e = absurd cc

  some_is : (n : ℕ) (go : 1 ≤ n → Result Object Why) (P : Object → Type 0) → ((le : 1 ≤ n) → go le ≡ Ok o → P o) → at_most 1 n BadNumber go ≡ Ok o → P o
  unfolding at_most
  some_is n go P all e = by (leb 1 n) refl e where
    by : (t : Bool) (h : leb 1 n ≡ t) → tested 1 n BadNumber go t h ≡ Ok o → P o
    by true h e = all (leb-true 1 n h) e
    by false h e = absurd cc

  sized_is : {P : Type 0} (most i : ℕ) (f : ℕ → Result Object Why) → (positive_to most (word_at args i) >>= f) ≡ Ok o → ((n : ℕ) → n ≡ number_at args i → f n ≡ Ok o → P) → P
  sized_is most i f e more =
      let a = bind_ok (positive_to most (word_at args i)) f o e in
      more a.0 (positive_value most (word_at args i) a.0 a.1).0 a.2

  -- the kind and the size of an object
  abbrev Is : Kind → Object → Type 0
  Is k x = (object_kind x ≡ k) × (cells x ≡ declared_size k args)

  object_is : (k : Kind) → object_at at k args ≡ Ok o → Is k o
  unfolding object_at loc_at stack_at queue_at table_at grow_at cache_at mvar_at promise_at acc_at
  object_is kind.Loc e =
      let a = bind_ok (number_to 4294967295 (word_at args 1)) (loc_at at) o e in
      laid_is _ _ (Is kind.Loc) (λ le. (refl, refl)) a.2
  object_is kind.Stack e = sized_is 4096 1 (stack_at at) e (λ n v f. laid_is _ _ (Is kind.Stack) (λ le. (refl, omega (arith, v))) f)
  object_is kind.Queue e = sized_is 4096 1 (queue_at at) e (λ n v f. some_is n _ (Is kind.Queue) (λ some g. laid_is _ _ (Is kind.Queue) (λ le. (refl, omega (arith, v))) g) f)
  object_is kind.Table e = sized_is 1024 1 _ e (λ b u f. sized_is 4096 2 (table_at at b) f (λ n v g. some_is b _ (Is kind.Table) (λ some x. some_is n _ (Is kind.Table) (λ more y. laid_is _ _ (Is kind.Table) (λ le. (refl, omega (arith, u, v))) y) x) g))
  object_is kind.Grow e = sized_is 4096 1 (grow_at at) e (λ n v f. some_is n _ (Is kind.Grow) (λ some g. laid_is _ _ (Is kind.Grow) (λ le. (refl, omega (arith, v))) g) f)
  object_is kind.Cache e = sized_is 1024 1 _ e (λ b u f. sized_is 4096 2 (cache_at at b) f (λ n v g. some_is b _ (Is kind.Cache) (λ some x. some_is n _ (Is kind.Cache) (λ more y. laid_is _ _ (Is kind.Cache) (λ le. (refl, omega (arith, u, v))) y) x) g))
  object_is kind.Mvar e = laid_is _ _ (Is kind.Mvar) (λ le. (refl, refl)) e
  object_is kind.Promise e = laid_is _ _ (Is kind.Promise) (λ le. (refl, refl)) e
  object_is kind.Acc e = sized_is 32 1 (acc_at at) e (λ n v f. some_is n _ (Is kind.Acc) (λ some g. laid_is _ _ (Is kind.Acc) (λ le. (refl, omega (arith, v))) g) f)

-- a new name is the word
named_is : (names : Names) (word name : List ℕ) → new_name names word ≡ Ok name → name ≡ word
unfolding new_name
named_is names word name e =
    let last = λ (x : Unit {0}). given word in
    let second = λ (x : Unit {0}). wants (not (is_some (object_of names word))) RepeatedName >>= last in
    let a = bind_ok (wants (is_name word) BadName) second name e in
    let b = bind_ok (wants (not (is_some (object_of names word))) RepeatedName) last name a.2 in
    sym (ok_is _ _ b.2)

pub declare_is : (names : Names) (k : Kind) (args : List (List ℕ)) (entry : List ℕ × Object) → declare names k args ≡ Ok entry → (entry.0 ≡ word_at args 0) × (object_kind entry.1 ≡ k) × (cells entry.1 ≡ declared_size k args)
unfolding declare
declare_is names k args entry e =
    let last = λ (name : List ℕ) (o : Object). given (name, o) in
    let behind = λ (name : List ℕ). object_at (next_location names) k args >>= last name in
    let a = bind_ok (counted (fields k) args) (λ all. new_name names (word_at args 0) >>= behind) entry e in
    let b = bind_ok (new_name names (word_at args 0)) behind entry a.2 in
    let d = bind_ok (object_at (next_location names) k args) (last b.0) entry b.2 in
    let same : (b.0, d.0) ≡ entry = ok_is _ _ d.2 in
    let is = object_is (next_location names) args d.0 k d.1 in
    subst (λ (x : List ℕ × Object). (x.0 ≡ word_at args 0) × (object_kind x.1 ≡ k) × (cells x.1 ≡ declared_size k args)) same (named_is names (word_at args 0) b.0 b.1, is.0, is.1)
