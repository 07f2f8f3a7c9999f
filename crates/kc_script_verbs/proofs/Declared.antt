-- Where a declared object lies, and its sizes.
use Rattle.std.proofs.Common.{◌≡◌, ℕ, ◌≤◌, List, [], ◌∷◌, Option, Some, None, Result, Ok, refl, subst, arith}
use Rattle.kc_script_bundle.specs.Script.{Names, cells, next_from}
use Rattle.kc_script_bundle.specs.declared.object.Object.{Object}
use Rattle.kc_script_lines.proofs.Faults.{positive_value}
use Rattle.kc_script_lines.proofs.Given.{given, bind_ok, ok_is}
use Rattle.kc_script_lines.specs.Tests.{◌>>=◌, counted, word_at, number_to, positive_to}
use Rattle.kc_script_lines.specs.declared.fault.Why.{Why}
use Rattle.kc_script_verbs.specs.declared.word.Kind.{Kind}
use Rattle.kc_script_verbs.specs.declared.word.Kind.TheVariants as kind
use Rattle.kc_script_verbs.specs.declared.word.Word.{Word}
use Rattle.kc_script_verbs.specs.declared.word.Word.TheVariants as word
use Rattle.kc_script_verbs.proofs.Placing.{few_made}
use Rattle.kc_script_verbs.specs.Declaring.{fields, loc_at, stack_at, queue_at, table_at, grow_at, cache_at, mvar_at, promise_at, acc_at, object_at, declare, declared_by, declared, IsAt, IsPlaced}
use Rattle.kc_script_verbs.specs.Objects.{new_name}
use Rattle.kc_script_verbs.specs.Words.{word_of}

-- ---- an object

-- an object of one size
one_size : (at most : ℕ) (w : List ℕ) (made : ℕ → Result Object Why) (o : Object) → (positive_to most w >>= made) ≡ Ok o → ((n : ℕ) → 1 ≤ n → n ≤ most → made n ≡ Ok o → IsAt at o) → IsAt at o
one_size at most w made o e good =
    let a = bind_ok (positive_to most w) made o e in
    let size = positive_value most w a.0 a.1 in
    good a.0 size.1 size.2 a.2

loc_placed : (at value : ℕ) (o : Object) → loc_at at value ≡ Ok o → IsAt at o
unfolding loc_at
loc_placed at value o e = let f = few_made _ _ _ _ o e in subst (IsAt at) (ok_is _ _ f.1) (refl, f.0, tt)

stack_placed : (at cap : ℕ) (o : Object) → 1 ≤ cap → cap ≤ 4096 → stack_at at cap ≡ Ok o → IsAt at o
unfolding stack_at
stack_placed at cap o some few e = let f = few_made _ _ _ _ o e in subst (IsAt at) (ok_is _ _ f.1) (refl, omega (arith, f.0), (some, few))

queue_placed : (at cap : ℕ) (o : Object) → 1 ≤ cap → cap ≤ 4096 → queue_at at cap ≡ Ok o → IsAt at o
unfolding queue_at
queue_placed at cap o some few e =
    let g = few_made _ _ _ _ o e in
    let f = few_made _ _ _ _ o g.1 in
    subst (IsAt at) (ok_is _ _ f.1) (refl, omega (arith, f.0), (some, few))

table_placed : (at buckets cap : ℕ) (o : Object) → (1 ≤ buckets) × (buckets ≤ 1024) → 1 ≤ cap → cap ≤ 4096 → table_at at buckets cap ≡ Ok o → IsAt at o
unfolding table_at
table_placed at buckets cap o b some few e =
    let i = few_made _ _ _ _ o e in
    let g = few_made _ _ _ _ o i.1 in
    let f = few_made _ _ _ _ o g.1 in
    subst (IsAt at) (ok_is _ _ f.1) (refl, omega (arith, f.0), (b.0, b.1, some, few))

grow_placed : (at cap : ℕ) (o : Object) → 1 ≤ cap → cap ≤ 4096 → grow_at at cap ≡ Ok o → IsAt at o
unfolding grow_at
grow_placed at cap o some few e =
    let g = few_made _ _ _ _ o e in
    let f = few_made _ _ _ _ o g.1 in
    subst (IsAt at) (ok_is _ _ f.1) (refl, omega (arith, f.0), (some, few))

cache_placed : (at buckets cap : ℕ) (o : Object) → (1 ≤ buckets) × (buckets ≤ 1024) → 1 ≤ cap → cap ≤ 4096 → cache_at at buckets cap ≡ Ok o → IsAt at o
unfolding cache_at
cache_placed at buckets cap o b some few e =
    let i = few_made _ _ _ _ o e in
    let g = few_made _ _ _ _ o i.1 in
    let f = few_made _ _ _ _ o g.1 in
    subst (IsAt at) (ok_is _ _ f.1) (refl, omega (arith, f.0), (b.0, b.1, some, few))

mvar_placed : (at : ℕ) (o : Object) → mvar_at at ≡ Ok o → IsAt at o
unfolding mvar_at
mvar_placed at o e = let f = few_made _ _ _ _ o e in subst (IsAt at) (ok_is _ _ f.1) (refl, f.0, tt)

promise_placed : (at : ℕ) (o : Object) → promise_at at ≡ Ok o → IsAt at o
unfolding promise_at
promise_placed at o e = let f = few_made _ _ _ _ o e in subst (IsAt at) (ok_is _ _ f.1) (refl, f.0, tt)

acc_placed : (at cells : ℕ) (o : Object) → 1 ≤ cells → cells ≤ 32 → acc_at at cells ≡ Ok o → IsAt at o
unfolding acc_at
acc_placed at cells o some few e =
    let g = few_made _ _ _ _ o e in
    let f = few_made _ _ _ _ o g.1 in
    subst (IsAt at) (ok_is _ _ f.1) (refl, f.0, (some, few))

-- the object that begins at a location
object_is_at : (at : ℕ) (k : Kind) (args : List (List ℕ)) (o : Object) → object_at at k args ≡ Ok o → IsAt at o
unfolding object_at
object_is_at at kind.Loc args o e = let a = bind_ok (number_to 4294967295 (word_at args 1)) (loc_at at) o e in loc_placed at a.0 o a.2
object_is_at at kind.Stack args o e = one_size at 4096 (word_at args 1) (stack_at at) o e (λ n some few f. stack_placed at n o some few f)
object_is_at at kind.Queue args o e = one_size at 4096 (word_at args 1) (queue_at at) o e (λ n some few f. queue_placed at n o some few f)
object_is_at at kind.Table args o e = one_size at 1024 (word_at args 1) (λ b. positive_to 4096 (word_at args 2) >>= table_at at b) o e (λ b some few f. one_size at 4096 (word_at args 2) (table_at at b) o f (λ n some' few' g. table_placed at b n o (some, few) some' few' g))
object_is_at at kind.Grow args o e = one_size at 4096 (word_at args 1) (grow_at at) o e (λ n some few f. grow_placed at n o some few f)
object_is_at at kind.Cache args o e = one_size at 1024 (word_at args 1) (λ b. positive_to 4096 (word_at args 2) >>= cache_at at b) o e (λ b some few f. one_size at 4096 (word_at args 2) (cache_at at b) o f (λ n some' few' g. cache_placed at b n o (some, few) some' few' g))
object_is_at at kind.Mvar args o e = mvar_placed at o e
object_is_at at kind.Promise args o e = promise_placed at o e
object_is_at at kind.Acc args o e = one_size at 32 (word_at args 1) (acc_at at) o e (λ n some few f. acc_placed at n o some few f)

-- ---- what a line declares

-- an object that a line declares
pub declare_placed : (names : Names) (k : Kind) (args : List (List ℕ)) (entry : List ℕ × Object) → declare names k args ≡ Ok entry → IsPlaced names entry.1
unfolding declare
declare_placed names k args entry e =
    let last = λ (name : List ℕ) (o : Object). given (name, o) in
    let second = λ (name : List ℕ). object_at (next_from 1 names) k args >>= last name in
    let a = bind_ok (counted (fields k) args) (λ all. new_name names (word_at args 0) >>= second) entry e in
    let b = bind_ok (new_name names (word_at args 0)) second entry a.2 in
    let d = bind_ok (object_at (next_from 1 names) k args) (last b.0) entry b.2 in
    subst (λ (x : List ℕ × Object). IsPlaced names x.1) (ok_is _ _ d.2) (object_is_at (next_from 1 names) k args d.0 d.1)

declared_by_placed : (names : Names) (w : Option Word) (args : List (List ℕ)) (entry : List ℕ × Object) → declared_by names w args ≡ Ok entry → IsPlaced names entry.1
declared_by_placed names None args entry e = absurd cc
declared_by_placed names (Some word.Thread) args entry e = absurd cc
declared_by_placed names (Some word.Atomic) args entry e = absurd cc
declared_by_placed names (Some word.Or) args entry e = absurd cc
declared_by_placed names (Some word.End) args entry e = absurd cc
declared_by_placed names (Some (word.Declare k)) args entry e = declare_placed names k args entry e
declared_by_placed names (Some (word.Say v)) args entry e = absurd cc

-- an object that a line declares, with its first word
pub declared_placed : (names : Names) (line : List (List ℕ)) (entry : List ℕ × Object) → declared names line ≡ Ok entry → IsPlaced names entry.1
declared_placed names [] entry e = absurd cc
declared_placed names (first ∷ args) entry e = declared_by_placed names (word_of first) args entry e
