-- An operation keeps the cells of all objects well formed.
use Rattle.std.proofs.Common.{◌≡◌, ◌≢◌, ℕ, ◌+◌, ◌≤◌, ◌<◌, ◌==◌, Bool, true, false, cond, List, [], ◌∷◌, inl, inr, refl, sym, ap, subst, arith}
use Rattle.std.proofs.lemmas.Bool.Decides.{nat_tests}
use Rattle.kc_loc.specs.declared.operation.LocOp.{LocOp}
use Rattle.kc_model.specs.declared.footprint.Loc.{Loc}
use Rattle.kc_xt.proofs.Stay.{stays_outside}
use Rattle.kc_xt.specs.Meaning.{too_large, put, map_after}
use Rattle.kc_xt.specs.Program.{replies}
use Rattle.kc_loc.specs.declared.operation.LocOp.TheVariants as loc
use Rattle.kc_cache.proofs.Values.{cache_means}
use Rattle.kc_cells.proofs.MvarLaw.{mvar_means}
use Rattle.kc_cells.proofs.PromiseLaw.{promise_means}
use Rattle.kc_grow.proofs.Values.{grow_means}
use Rattle.kc_hash.proofs.Values.{hash_means}
use Rattle.kc_loc.proofs.Values.{loc_has_value}
use Rattle.kc_loc.specs.Meaning.{loc_value}
use Rattle.kc_queue.proofs.Values.{queue_means}
use Rattle.kc_script_bundle.specs.declared.object.Object.{Object}
use Rattle.kc_stack.proofs.Values.{stack_means}
use Rattle.kc_script_bundle.specs.declared.object.Object.TheVariants as object
use Rattle.kc_script_bundle.specs.declared.operation.Op.{Op}
use Rattle.kc_script_bundle.specs.declared.operation.Op.TheVariants as op
use Rattle.kc_script_bundle.proofs.Having.{has_place}
use Rattle.kc_script_bundle.proofs.Own.{first_of, behind_of, op_stays}
use Rattle.kc_script_bundle.proofs.Standing.{stands_same}
use Rattle.kc_script_bundle.specs.Meaning.{op_program, op_meaning}
use Rattle.kc_script_bundle.specs.On.{IsOn, LocIsOn, IsLocation}
use Rattle.kc_script_bundle.specs.Script.{Names, base, cells, HasObject, LieFrom}
use Rattle.kc_script_bundle.specs.State.{Content, number, items, place, pairs, Stands, AreWellFormed}

-- an object's cells stand for some content
abbrev pub IsWell : Object → (ℕ → ℕ) → Type 0
IsWell o m = (c : Content) × Stands o m c

-- the same in all cells from this location on
pub all_same : (at : ℕ) (names : Names) (m w : ℕ → ℕ) → LieFrom at names → ((l : ℕ) → at ≤ l → m l ≡ w l) → AreWellFormed names m → AreWellFormed names w
unfolding LieFrom
all_same at [] m w lie same ([], h) = ([], tt)
all_same at [] m w lie same (c ∷ cs, h) = absurd h
all_same at (entry ∷ names) m w lie same ([], h) = absurd h
all_same at (entry ∷ names) m w lie same (c ∷ cs, (h, hs)) =
    let rest = all_same (at + cells entry.1) names m w lie.1 (λ l le. same l (omega (arith, le))) (cs, hs) in
    (c ∷ rest.0, (stands_same entry.1 m w c (λ l lo hi. same l (let first = lie.0 in omega (arith, lo, first))) h, rest.1))

-- one object's cells stay well formed, and nothing changes outside them
pub one_changes : (o : Object) (m w : ℕ → ℕ) → ((l : ℕ) → l < base o → m l ≡ w l) → ((l : ℕ) → base o + cells o ≤ l → m l ≡ w l) → (IsWell o m → IsWell o w)
    → (at : ℕ) (names : Names) → LieFrom at names → HasObject names o → AreWellFormed names m → AreWellFormed names w
unfolding LieFrom
one_changes o m w before behind keeps at [] lie has h = absurd has
one_changes o m w before behind keeps at (entry ∷ names) lie has ([], h) = absurd h
one_changes o m w before behind keeps at (entry ∷ names) lie (inl e) (c ∷ cs, (h, hs)) =
    let well = keeps (c, subst (λ x. Stands x m c) e h) in
    let rest = all_same (at + cells entry.1) names m w lie.1 (λ l le. behind l (let first = lie.0 in omega (arith, le, first, ap base e, ap cells e))) (cs, hs) in
    (well.0 ∷ rest.0, (subst (λ x. Stands x w well.0) (sym e) well.1, rest.1))
one_changes o m w before behind keeps at (entry ∷ names) lie (inr has) (c ∷ cs, (h, hs)) =
    let later = (has_place (at + cells entry.1) names o lie.1 has).0 in
    let rest = one_changes o m w before behind keeps (at + cells entry.1) names lie.1 has (cs, hs) in
    (c ∷ rest.0, (stands_same entry.1 m w c (λ l lo hi. before l (let first = lie.0 in omega (arith, hi, later, first))) h, rest.1))

-- an operation on one object that keeps that one well formed
object_keeps : (names : Names) → LieFrom 1 names → (o : Op) (x : Object) → IsOn names o → HasObject names x → base x ≡ first_of o → base x + cells x ≡ behind_of o → (n : ℕ) (m : ℕ → ℕ) (ks : List ℕ) → (IsWell x m → IsWell x (map_after m (op_meaning o n m ks).touches))
    → AreWellFormed names m → AreWellFormed names (map_after m (op_meaning o n m ks).touches)
object_keeps names lie o x on has first last n m ks keeps well =
    let same = stays_outside (first_of o) (behind_of o) (op_program o replies) (op_stays o) n m ks in
    one_changes x m (map_after m (op_meaning o n m ks).touches)
    (λ l lt. sym (same l (λ c lo hi e. omega (arith, first, lt, lo, e))))
    (λ l le. sym (same l (λ c lo hi e. omega (arith, last, le, hi, e))))
    keeps 1 names lie has well

-- ---- locations

module _ (names : Names) (lie : LieFrom 1 names) where
  put_keeps : (l : Loc) (v : ℕ) (m : ℕ → ℕ) → IsLocation names l → AreWellFormed names m → AreWellFormed names (put m l.0 v)
  put_keeps l v m (value, has) well =
      let o = object.Loc l value in
      let before : (k : ℕ) → k < l.0 → m k ≡ put m l.0 v k = λ k lt. grind (arith, nat_tests) in
      let behind : (k : ℕ) → l.0 + 1 ≤ k → m k ≡ put m l.0 v k = λ k le. grind (arith, nat_tests) in
      one_changes o m (put m l.0 v) before behind (λ _. (number (put m l.0 v l.0), refl)) 1 names lie has well

  if_keeps : (t : Bool) (m w : ℕ → ℕ) → AreWellFormed names m → AreWellFormed names w → AreWellFormed names (cond t m w)
  if_keeps true m w h g = h
  if_keeps false m w h g = g

  value_keeps : (o : LocOp) (m : ℕ → ℕ) → LocIsOn names o → AreWellFormed names m → AreWellFormed names (loc_value o m).map
  value_keeps (loc.Get l) m on well = well
  value_keeps (loc.Set l v) m on well = put_keeps l v m on well
  value_keeps (loc.Exchange l v) m on well = put_keeps l v m on well
  value_keeps (loc.Swap a b) m on well = put_keeps b (m a.0) (put m a.0 (m b.0)) on.1 (put_keeps a (m b.0) m on.0 well)
  value_keeps (loc.Cas l before after) m on well = if_keeps (m l.0 == before) (put m l.0 after) m (put_keeps l after m on well) well
  value_keeps (loc.FetchAdd l k) m on well = put_keeps l _ m on well
  value_keeps (loc.Incr l) m on well = put_keeps l _ m on well
  value_keeps (loc.Decr l) m on well = put_keeps l _ m on well
  value_keeps (loc.Update l f) m on well = put_keeps l _ m on well
  value_keeps (loc.Modify l f) m on well = put_keeps l _ m on well
  value_keeps (loc.Check l r k) m on well = well

  -- ---- operations

  pub op_keeps : (o : Op) (n : ℕ) (m : ℕ → ℕ) (ks : List ℕ) → IsOn names o → AreWellFormed names m → (op_meaning o n m ks).outcome ≢ too_large → AreWellFormed names (map_after m (op_meaning o n m ks).touches)
  op_keeps (op.Loc o) n m ks on well ne = subst (AreWellFormed names) (sym (loc_has_value o n m ks ne).1) (value_keeps o m on well)
  op_keeps (op.Stack o) n m ks on well ne = object_keeps names lie (op.Stack o) (object.Stack o.stack) on on refl (omega arith) n m ks (λ (c, (xs, h, e)). (items _, (_, (stack_means o xs n m ks h ne).1, refl))) well
  op_keeps (op.Queue o) n m ks on well ne = object_keeps names lie (op.Queue o) (object.Queue o.queue) on on refl (omega arith) n m ks (λ (c, (xs, h, e)). (items _, (_, (queue_means o xs n m ks h ne).1, refl))) well
  op_keeps (op.Mvar o) n m ks on well ne = object_keeps names lie (op.Mvar o) (object.Mvar o.mvar) on on refl refl n m ks (λ (c, (v, h, e)). (place _, (_, (mvar_means o v n m ks h ne).1, refl))) well
  op_keeps (op.Promise o) n m ks on well ne = object_keeps names lie (op.Promise o) (object.Promise o.promise) on on refl refl n m ks (λ (c, (v, h, e)). (place _, (_, (promise_means o v n m ks h ne).1, refl))) well
  op_keeps (op.Acc o) n m ks on well ne = object_keeps names lie (op.Acc o) (object.Acc o.acc) on on refl refl n m ks (λ h. (number _, (_, refl, refl))) well
  op_keeps (op.Hash o) n m ks on well ne = object_keeps names lie (op.Hash o) (object.Hash o.hash) on on refl (omega arith) n m ks (λ (c, (ps, h, e)). (pairs _, (_, (hash_means o ps n m ks h ne).1, refl))) well
  op_keeps (op.Grow o) n m ks on well ne = object_keeps names lie (op.Grow o) (object.Grow o.grow) on on refl (omega arith) n m ks (λ (c, (ps, h, e)). (pairs _, (_, (grow_means o ps n m ks h ne).1, refl))) well
  op_keeps (op.Cache o) n m ks on well ne = object_keeps names lie (op.Cache o) (object.Cache o.cache) on on refl (omega arith) n m ks (λ (c, (ps, h, e)). (pairs _, (_, (cache_means o ps n m ks h ne).1, refl))) well
  op_keeps (op.Cancel c) n m ks on well ne =
      let same = stays_outside c.live.0 (c.live.0 + 1) (op_program (op.Cancel c) replies) (op_stays (op.Cancel c)) n m ks in
      all_same 1 names m _ lie (λ l le. sym (same l (λ k lo hi e. omega (arith, on.0, le, hi, e)))) well
