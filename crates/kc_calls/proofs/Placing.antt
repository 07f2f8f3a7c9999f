-- Structures where their sizes are sizes and all their cells are locations.
use Rattle.std.proofs.Common.{◌≡◌, ℕ, ◌<◌, ◌≤◌, ◌&&◌, Bool, true, false, Option, Some, None, refl, sym, ap, ap₂, ◌∙◌, subst, arith}
use Rattle.std.specs.Prelude.{nat_le}
use Rattle.std.proofs.lemmas.Bool.{leb-true, leb-false}
use Rattle.std.proofs.Math.Bridge.{le_prop}
use Rattle.kc_cache.proofs.Same.{same_cache, table_laid as table_within, order_laid}
use Rattle.kc_cache.specs.declared.cache.Cache.{Cache}
use Rattle.kc_calls.specs.Structures.{call_tested, call_at_most, sized, call_laid, call_stack_at, call_queue_at, call_table_at, call_grow_at, call_cache_at, call_mvar_at, call_promise_at, accumulator_at}
use Rattle.kc_cells.specs.declared.accumulator.Accumulator.{Accumulator}
use Rattle.kc_cells.specs.declared.accumulator.TheConstants.{MOST_CELLS}
use Rattle.kc_cells.specs.declared.mvar.Mvar.{Mvar}
use Rattle.kc_cells.specs.declared.promise.Promise.{Promise}
use Rattle.kc_grow.specs.declared.grow.Grow.{Grow}
use Rattle.kc_hash.specs.declared.hash.Hash.{Hash}
use Rattle.kc_queue.specs.declared.queue.Queue.{Queue}
use Rattle.kc_script_bundle.specs.declared.object.Object.TheVariants as object
use Rattle.kc_stack.specs.declared.stack.Stack.{Stack}
use Rattle.kc_xt.specs.declared.structure.TheConstants.{MOST_ITEMS, MOST_BUCKETS}
use Rattle.kc_model.specs.declared.plain_store.TheConstants.{MOST_LOCATIONS}
use Rattle.kc_script_bundle.specs.declared.object.Object.{Object}

module _ {X : Type 0} (n most : ℕ) (go : n ≤ most → Option X) where
  -- a number that is small enough
  pub few_is : (le : n ≤ most) → call_at_most n most go ≡ go le
  unfolding call_at_most
  few_is le = by (nat_le n most) refl
    where
      by : (t : Bool) (e : nat_le n most ≡ t) → call_tested n most go t e ≡ go le
      by true e = ap go (le_prop (leb-true n most e) le)
      by false e = absurd (let f = leb-false n most e in omega (arith, f, le))

  -- one that isn't
  pub many_is : most < n → call_at_most n most go ≡ None
  unfolding call_at_most
  many_is lt = by (nat_le n most) refl
    where
      by : (t : Bool) (e : nat_le n most ≡ t) → call_tested n most go t e ≡ None
      by true e = absurd (let f = leb-true n most e in omega (arith, f, lt))
      by false e = refl

-- a size that is none, and one that is
pub unsized : (r : Bool) (n most : ℕ) (go : 1 ≤ n → Option Object) → r ≡ (nat_le 1 n && nat_le n most) → r ≡ false → sized n most go ≡ None
unsized r n most go e f = by (nat_le 1 n) (nat_le n most) refl refl
  where
    by : (t u : Bool) → nat_le 1 n ≡ t → nat_le n most ≡ u → sized n most go ≡ None
    by false u g h = many_is 1 n (λ some. call_at_most n most (λ few. go some)) (let k = leb-false 1 n g in omega (arith, k))
    by true false g h = few_is 1 n (λ some. call_at_most n most (λ few. go some)) (leb-true 1 n g) ∙ many_is n most (λ few. go (leb-true 1 n g)) (let k = leb-false n most h in omega (arith, k))
    by true true g h = absurd (let k : r ≡ true = e ∙ ap₂ (λ a b. a && b) g h in cc)

-- what a size is
pub size : (r : Bool) (n most : ℕ) → r ≡ (nat_le 1 n && nat_le n most) → r ≡ true → (1 ≤ n) × (n ≤ most)
size r n most e f = by (nat_le 1 n) (nat_le n most) refl refl
  where
    by : (t u : Bool) → nat_le 1 n ≡ t → nat_le n most ≡ u → (1 ≤ n) × (n ≤ most)
    by true true g h = (leb-true 1 n g, leb-true n most h)
    by true false g h = absurd (let k : r ≡ false = e ∙ ap₂ (λ a b. a && b) g h in cc)
    by false u g h = absurd (let k : r ≡ false = e ∙ ap (λ a. a && nat_le n most) g in cc)

pub sized_at : (n most : ℕ) (go : 1 ≤ n → Option Object) (some : 1 ≤ n) → n ≤ most → sized n most go ≡ go some
sized_at n most go some few = few_is 1 n (λ some. call_at_most n most (λ few. go some)) some ∙ few_is n most (λ few. go some) few

pub sized_is : (r : Bool) (n most : ℕ) (go : 1 ≤ n → Option Object) (e : r ≡ (nat_le 1 n && nat_le n most)) (f : r ≡ true) → sized n most go ≡ go (size r n most e f).0
sized_is r n most go e f = sized_at n most go (size r n most e f).0 (size r n most e f).1

pub unlaid : (r : Bool) (n m : ℕ) (make : n ≤ MOST_LOCATIONS → Object) → r ≡ nat_le m MOST_LOCATIONS → r ≡ false → n ≡ m → call_laid n make ≡ None
unlaid r n m make e f h = many_is n MOST_LOCATIONS (λ room. Some (make room)) (let k = leb-false m MOST_LOCATIONS (sym e ∙ f) in omega (arith, k, h))

pub room : (r : Bool) (n m : ℕ) → r ≡ nat_le m MOST_LOCATIONS → r ≡ true → n ≡ m → n ≤ MOST_LOCATIONS
room r n m e f h = let k = leb-true m MOST_LOCATIONS (sym e ∙ f) in omega (arith, k, h)

pub laid_is : (n : ℕ) (make : n ≤ MOST_LOCATIONS → Object) (room : n ≤ MOST_LOCATIONS) → call_laid n make ≡ Some (make room)
laid_is n make room = few_is n MOST_LOCATIONS (λ room. Some (make room)) room

-- ---- each structure, at the numbers that it has

abbrev Is : Option Object → Object → Type 0
Is made o = made ≡ Some o

pub stack_laid : (s : Stack) (b c : ℕ) → s.base.0 ≡ b → s.cap ≡ c → 1 ≤ c → c ≤ MOST_ITEMS → Is (call_stack_at b c) (object.Stack s)
unfolding call_stack_at
stack_laid s b c e f some few = let P : ℕ → ℕ → Type 0 = λ x y. 1 ≤ y → y ≤ MOST_ITEMS → Is (call_stack_at x y) (object.Stack s) in
    subst (λ x. P x c) e (subst (λ y. P s.base.0 y) f (λ some few. sized_at _ _ _ some few ∙ laid_is _ _ s.laid)) some few

pub queue_laid : (q : Queue) (b c : ℕ) → q.base.0 ≡ b → q.cap ≡ c → c ≤ MOST_ITEMS → Is (call_queue_at b c) (object.Queue q)
unfolding call_queue_at
queue_laid q b c e f few = let P : ℕ → ℕ → Type 0 = λ x y. y ≤ MOST_ITEMS → Is (call_queue_at x y) (object.Queue q) in
    subst (λ x. P x c) e (subst (λ y. P q.base.0 y) f (λ few. sized_at _ _ _ q.some few ∙ laid_is _ _ q.laid)) few

pub table_laid : (h : Hash) (b m c : ℕ) → h.base.0 ≡ b → h.buckets ≡ m → h.cap ≡ c → m ≤ MOST_BUCKETS → c ≤ MOST_ITEMS → Is (call_table_at b m c) (object.Hash h)
unfolding call_table_at
table_laid h b m c e g f few_buckets few = let P : ℕ → ℕ → ℕ → Type 0 = λ x z y. z ≤ MOST_BUCKETS → y ≤ MOST_ITEMS → Is (call_table_at x z y) (object.Hash h) in
    subst (λ x. P x m c) e (subst (λ z. P h.base.0 z c) g (subst (λ y. P h.base.0 h.buckets y) f (λ few_buckets few. sized_at _ _ _ h.some_buckets few_buckets ∙ sized_at _ _ _ h.some few ∙ laid_is _ _ h.laid))) few_buckets few

pub grow_laid : (g : Grow) (b c : ℕ) → g.base.0 ≡ b → g.cap ≡ c → c ≤ MOST_ITEMS → Is (call_grow_at b c) (object.Grow g)
unfolding call_grow_at
grow_laid g b c e f few = let P : ℕ → ℕ → Type 0 = λ x y. y ≤ MOST_ITEMS → Is (call_grow_at x y) (object.Grow g) in
    subst (λ x. P x c) e (subst (λ y. P g.base.0 y) f (λ few. sized_at _ _ _ g.some few ∙ laid_is _ _ g.laid)) few

pub cache_laid : (k : Cache) (b m c : ℕ) → k.base.0 ≡ b → k.buckets ≡ m → k.cap ≡ c → m ≤ MOST_BUCKETS → c ≤ MOST_ITEMS → Is (call_cache_at b m c) (object.Cache k)
unfolding call_cache_at
cache_laid k b m c e g f few_buckets few = let P : ℕ → ℕ → ℕ → Type 0 = λ x z y. z ≤ MOST_BUCKETS → y ≤ MOST_ITEMS → Is (call_cache_at x z y) (object.Cache k) in
    subst (λ x. P x m c) e (subst (λ z. P k.base.0 z c) g (subst (λ y. P k.base.0 k.buckets y) f (λ few_buckets few.
    sized_at _ _ _ k.some_buckets few_buckets ∙ sized_at _ _ _ k.some few ∙ laid_is _ _ k.laid
    ∙ ap (λ (x : Cache). Some (object.Cache x)) (same_cache (record { base = k.base; buckets = k.buckets; cap = k.cap; some_buckets = k.some_buckets; some = k.some; laid = k.laid; table_laid = table_within k.base.0 k.buckets k.cap k.laid; order_laid = order_laid k.base.0 k.buckets k.cap k.laid }) k refl refl refl)))) few_buckets few

pub mvar_laid : (x : Mvar) (b : ℕ) → x.base.0 ≡ b → Is (call_mvar_at b) (object.Mvar x)
unfolding call_mvar_at
mvar_laid x b e = let P : ℕ → Type 0 = λ y. Is (call_mvar_at y) (object.Mvar x) in subst P e (laid_is _ _ x.laid)

pub promise_laid : (x : Promise) (b : ℕ) → x.base.0 ≡ b → Is (call_promise_at b) (object.Promise x)
unfolding call_promise_at
promise_laid x b e = let P : ℕ → Type 0 = λ y. Is (call_promise_at y) (object.Promise x) in subst P e (laid_is _ _ x.laid)

pub accumulator_laid : (x : Accumulator) (b c : ℕ) → x.base.0 ≡ b → x.cells ≡ c → c ≤ MOST_CELLS → Is (accumulator_at b c) (object.Acc x)
unfolding accumulator_at
accumulator_laid x b c e f few = let P : ℕ → ℕ → Type 0 = λ u v. v ≤ MOST_CELLS → Is (accumulator_at u v) (object.Acc x) in
    subst (λ u. P u c) e (subst (λ v. P x.base.0 v) f (λ few. sized_at _ _ _ x.some few ∙ laid_is _ _ x.laid)) few
