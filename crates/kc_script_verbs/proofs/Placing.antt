-- Objects where all their cells are locations.
use Rattle.std.proofs.Common.{◌≡◌, ℕ, ◌+◌, ◌<◌, ◌≤◌, Bool, true, false, Result, Ok, Err, refl, sym, ap, ap₂, subst, ◌*◌, arith}
use Rattle.std.specs.Prelude.{nat_le}
use Rattle.std.proofs.lemmas.Bool.{leb-true, leb-false}
use Rattle.std.proofs.Math.Bridge.{le_prop}
use Rattle.kc_cache.proofs.Same.{same_cache, table_laid, order_laid}
use Rattle.kc_cache.specs.declared.cache.Cache.{Cache}
use Rattle.kc_cells.specs.declared.accumulator.Accumulator.{Accumulator}
use Rattle.kc_cells.specs.declared.mvar.Mvar.{Mvar}
use Rattle.kc_cells.specs.declared.promise.Promise.{Promise}
use Rattle.kc_grow.specs.declared.grow.Grow.{Grow}
use Rattle.kc_hash.proofs.Same.{same_hash}
use Rattle.kc_hash.specs.declared.hash.Hash.{Hash}
use Rattle.kc_model.specs.declared.footprint.Loc.{Loc}
use Rattle.kc_queue.specs.declared.queue.Queue.{Queue}
use Rattle.kc_script_lines.specs.declared.fault.Why.{Why}
use Rattle.kc_script_verbs.specs.Declaring.{tested, at_most}
use Rattle.kc_stack.specs.declared.stack.Stack.{Stack}

module _ {X : Type 0} (n most : ℕ) (why : Why) (go : n ≤ most → Result X Why) where
  -- a number that is small enough
  pub few_is : (le : n ≤ most) → at_most n most why go ≡ go le
  unfolding at_most
  few_is le = by (nat_le n most) refl
    where
      by : (t : Bool) (e : nat_le n most ≡ t) → tested n most why go t e ≡ go le
      by true e = ap go (le_prop (leb-true n most e) le)
      by false e = absurd (let f = leb-false n most e in omega (arith, f, le))

  -- one that isn't
  pub many_is : most < n → at_most n most why go ≡ Err why
  unfolding at_most
  many_is lt = by (nat_le n most) refl
    where
      by : (t : Bool) (e : nat_le n most ≡ t) → tested n most why go t e ≡ Err why
      by true e = absurd (let f = leb-true n most e in omega (arith, f, lt))
      by false e = refl

  -- what was made of a number that is small enough
  pub few_made : (x : X) → at_most n most why go ≡ Ok x → (le : n ≤ most) × (go le ≡ Ok x)
  unfolding at_most
  few_made x = by (nat_le n most) refl
    where
      by : (t : Bool) (e : nat_le n most ≡ t) → tested n most why go t e ≡ Ok x → (le : n ≤ most) × (go le ≡ Ok x)
      by true e f = (leb-true n most e, f)
      by false e f = absurd cc

-- ---- an object by its numbers

pub stack_is : (s : Stack) (b c : ℕ) (room : b + 1 + c ≤ 65536) → s.base.0 ≡ b → s.cap ≡ c → (let t : Stack = record { base = record { 0 = b }; cap = c; laid = room } in t) ≡ s
stack_is s b c room e f =
    let P : ℕ → ℕ → Type 0 = λ x y. (r : x + 1 + y ≤ 65536) → (let t : Stack = record { base = record { 0 = x }; cap = y; laid = r } in t) ≡ s in
    subst (λ x. P x c) e (subst (λ y. P s.base.0 y) f (λ r. ap (λ q. let t : Stack = record { base = s.base; cap = s.cap; laid = q } in t) (le_prop r s.laid))) room

pub queue_is : (q : Queue) (b c : ℕ) (some : 0 < c) (room : b + 2 + c ≤ 65536) → q.base.0 ≡ b → q.cap ≡ c → (let t : Queue = record { base = record { 0 = b }; cap = c; some = some; laid = room } in t) ≡ q
queue_is q b c some room e f =
    let P : ℕ → ℕ → Type 0 = λ x y. (s : 0 < y) (r : x + 2 + y ≤ 65536) → (let t : Queue = record { base = record { 0 = x }; cap = y; some = s; laid = r } in t) ≡ q in
    subst (λ x. P x c) e (subst (λ y. P q.base.0 y) f (λ s r. ap₂ (λ u v. let t : Queue = record { base = q.base; cap = q.cap; some = u; laid = v } in t) (le_prop s q.some) (le_prop r q.laid))) some room

pub mvar_is : (x : Mvar) (b : ℕ) (room : b + 2 ≤ 65536) → x.base.0 ≡ b → (let t : Mvar = record { base = record { 0 = b }; laid = room } in t) ≡ x
mvar_is x b room e =
    let P : ℕ → Type 0 = λ y. (r : y + 2 ≤ 65536) → (let t : Mvar = record { base = record { 0 = y }; laid = r } in t) ≡ x in
    subst P e (λ r. ap (λ q. let t : Mvar = record { base = x.base; laid = q } in t) (le_prop r x.laid)) room

pub promise_is : (x : Promise) (b : ℕ) (room : b + 2 ≤ 65536) → x.base.0 ≡ b → (let t : Promise = record { base = record { 0 = b }; laid = room } in t) ≡ x
promise_is x b room e =
    let P : ℕ → Type 0 = λ y. (r : y + 2 ≤ 65536) → (let t : Promise = record { base = record { 0 = y }; laid = r } in t) ≡ x in
    subst P e (λ r. ap (λ q. let t : Promise = record { base = x.base; laid = q } in t) (le_prop r x.laid)) room

pub acc_is : (x : Accumulator) (b n : ℕ) (some : 0 < n) (room : b + n ≤ 65536) → x.base.0 ≡ b → x.cells ≡ n → (let t : Accumulator = record { base = record { 0 = b }; cells = n; some = some; laid = room } in t) ≡ x
acc_is x b n some room e f =
    let P : ℕ → ℕ → Type 0 = λ y z. (s : 0 < z) (r : y + z ≤ 65536) → (let t : Accumulator = record { base = record { 0 = y }; cells = z; some = s; laid = r } in t) ≡ x in
    subst (λ y. P y n) e (subst (λ z. P x.base.0 z) f (λ s r. ap₂ (λ u v. let t : Accumulator = record { base = x.base; cells = x.cells; some = u; laid = v } in t) (le_prop s x.some) (le_prop r x.laid))) some room

pub grow_is : (g : Grow) (b c : ℕ) (some : 1 ≤ c) (room : b + 3 + c + 3 * c ≤ 65536) → g.base.0 ≡ b → g.cap ≡ c → (let t : Grow = record { base = record { 0 = b }; cap = c; some = some; laid = room } in t) ≡ g
grow_is g b c some room e f =
    let P : ℕ → ℕ → Type 0 = λ x y. (s : 1 ≤ y) (r : x + 3 + y + 3 * y ≤ 65536) → (let t : Grow = record { base = record { 0 = x }; cap = y; some = s; laid = r } in t) ≡ g in
    subst (λ x. P x c) e (subst (λ y. P g.base.0 y) f (λ s r. ap₂ (λ u v. let t : Grow = record { base = g.base; cap = g.cap; some = u; laid = v } in t) (le_prop s g.some) (le_prop r g.laid))) some room

pub hash_is : (h : Hash) (b m n : ℕ) (some_buckets : 1 ≤ m) (some : 1 ≤ n) (room : b + 2 + m + 3 * n ≤ 65536) → h.base.0 ≡ b → h.buckets ≡ m → h.cap ≡ n → (let t : Hash = record { base = record { 0 = b }; buckets = m; cap = n; some_buckets = some_buckets; some = some; laid = room } in t) ≡ h
hash_is h b m n some_buckets some room e f g =
    same_hash (record { base = record { 0 = b }; buckets = m; cap = n; some_buckets = some_buckets; some = some; laid = room }) h (ap (λ (x : ℕ). let l : Loc = record { 0 = x } in l) (sym e)) (sym f) (sym g)

pub cache_is : (c : Cache) (b m n : ℕ) (some_buckets : 1 ≤ m) (some : 1 ≤ n) (room : b + 6 + m + 7 * n ≤ 65536) → c.base.0 ≡ b → c.buckets ≡ m → c.cap ≡ n → (let t : Cache = record { base = record { 0 = b }; buckets = m; cap = n; some_buckets = some_buckets; some = some; laid = room; table_laid = table_laid b m n room; order_laid = order_laid b m n room } in t) ≡ c
cache_is c b m n some_buckets some room e f g =
    same_cache (record { base = record { 0 = b }; buckets = m; cap = n; some_buckets = some_buckets; some = some; laid = room; table_laid = table_laid b m n room; order_laid = order_laid b m n room }) c (ap (λ (x : ℕ). let l : Loc = record { 0 = x } in l) (sym e)) (sym f) (sym g)
