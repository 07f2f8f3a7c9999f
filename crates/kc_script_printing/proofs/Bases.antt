-- An object by where it begins, where objects lie in order.
use Rattle.std.proofs.Common.{◌≡◌, ℕ, zero, suc, ◌+◌, ◌≤◌, ◌<◌, Bool, true, false, cond, eqb, List, [], ◌∷◌, Some, refl, sym, ap, ◌∙◌, arith, inl, inr}
use Rattle.std.specs.Prelude.{◌⊎◌, map, slice_get}
use Rattle.std.proofs.lemmas.Bool.{cases_lt}
use Rattle.std.proofs.lemmas.Bool.Decides.{nat_tests}
use Rattle.kc_script.proofs.Again.{some_cells}
use Rattle.kc_script.specs.Canonical.{name_at}
use Rattle.kc_script_bundle.specs.Script.{Names, base, cells, AreSized, LieFrom}
use Rattle.kc_script_bundle.specs.declared.object.Object.{Object}

same_some : {A : Type 0} (x y : A) → Some x ≡ Some y → x ≡ y
same_some x y e = cc

-- the entry at an index, seen by a function
pub entry_seen : {X Y : Type 0} (f : X → Y) (es : List X) (i : ℕ) (e : X) → Some e ≡ slice_get es i → slice_get (map f es) i ≡ Some (f e)
entry_seen f [] i e h = absurd cc
entry_seen f (x ∷ es) zero e h = ap (λ y. Some (f y)) (sym (same_some e x h))
entry_seen f (x ∷ es) (suc i) e h = entry_seen f es i e h

equal : (a b : ℕ) → a ≡ b → eqb a b ≡ true
equal a b e = grind (arith, nat_tests)

apart : (a b : ℕ) → (a ≡ b → ⊥) → eqb a b ≡ false
apart a b ne = grind (arith, nat_tests)

-- an entry lies behind the place where the first begins
lies_behind : (at : ℕ) (names : Names) (i : ℕ) (e : List ℕ × Object) → LieFrom at names → slice_get names i ≡ Some e → at ≤ base e.1
unfolding LieFrom
lies_behind at [] i e lie h = absurd cc
lies_behind at (x ∷ names) zero e lie h = let same : x ≡ e = same_some x e h in omega (arith, lie.0, ap (λ (y : List ℕ × Object). base y.1) same)
lies_behind at (x ∷ names) (suc i) e lie h = let r = lies_behind (at + cells x.1) names i e lie.1 h in omega (arith, r)

-- later entries begin later
pub rises : (at : ℕ) (names : Names) (i j : ℕ) (a b : List ℕ × Object) → LieFrom at names → AreSized names → slice_get names i ≡ Some a → slice_get names j ≡ Some b → i < j → base a.1 < base b.1
unfolding LieFrom
rises at [] i j a b lie sized h k lt = absurd cc
rises at (x ∷ names) i zero a b lie sized h k lt = absurd (omega (arith, lt))
rises at (x ∷ names) zero (suc j) a b lie sized h k lt =
    let same : x ≡ a = same_some x a h in
    let r = lies_behind (at + cells x.1) names j b lie.1 k in
    let some = some_cells x.1 sized.0 in
    omega (arith, lie.0, r, some, ap (λ (y : List ℕ × Object). base y.1) same)
rises at (x ∷ names) (suc i) (suc j) a b lie sized h k lt = rises (at + cells x.1) names i j a b lie.1 sized.1 h k (omega (arith, lt))

yes : (x y : List ℕ) (b : Bool) → b ≡ true → cond b x y ≡ x
yes x y true e = refl
yes x y false e = absurd cc

no : (x y : List ℕ) (b : Bool) → b ≡ false → cond b x y ≡ y
no x y true e = absurd cc
no x y false e = refl

-- the name of what begins where an entry does is the entry's
pub name_found : (at : ℕ) (names : Names) (i : ℕ) (e : List ℕ × Object) → LieFrom at names → AreSized names → slice_get names i ≡ Some e → name_at names (base e.1) ≡ e.0
unfolding LieFrom
name_found at [] i e lie sized h = absurd cc
name_found at (x ∷ names) zero e lie sized h =
    let same : x ≡ e = same_some x e h in
    yes x.0 (name_at names (base e.1)) _ (equal (base x.1) (base e.1) (ap (λ (y : List ℕ × Object). base y.1) same)) ∙ ap (λ (y : List ℕ × Object). y.0) same
name_found at (x ∷ names) (suc i) e lie sized h =
    let r = lies_behind (at + cells x.1) names i e lie.1 h in
    let some = some_cells x.1 sized.0 in
    no x.0 (name_at names (base e.1)) _ (apart (base x.1) (base e.1) (λ same. omega (arith, lie.0, r, some, same))) ∙ name_found (at + cells x.1) names i e lie.1 sized.1 h

-- nothing begins there
pub name_missing : (names : Names) (at : ℕ) → ((i : ℕ) (e : List ℕ × Object) → slice_get names i ≡ Some e → base e.1 ≡ at → ⊥) → name_at names at ≡ []
name_missing [] at none = refl
name_missing (x ∷ names) at none = no x.0 (name_at names at) _ (apart (base x.1) at (none 0 x refl)) ∙ name_missing names at (λ i e. none (suc i) e)

-- what was searched so far: what lies below begins before the location, what lies above behind it
pub record Searched (names : Names) (at low high : ℕ) : Type 0 where
  pub below : (i : ℕ) (e : List ℕ × Object) → slice_get names i ≡ Some e → i < low → base e.1 < at
  pub above : (i : ℕ) (e : List ℕ × Object) → slice_get names i ≡ Some e → high ≤ i → at < base e.1

module _ (names : Names) (lie : LieFrom 1 names) (sized : AreSized names) (at low high middle : ℕ) (e : List ℕ × Object) (here : slice_get names middle ≡ Some e) (so_far : Searched names at low high) where
  no_later : (i : ℕ) (a : List ℕ × Object) → slice_get names i ≡ Some a → i ≤ middle → base a.1 ≤ base e.1
  no_later i a h le = by (cases_lt i middle) where
    by : (i < middle) ⊎ (middle ≤ i) → base a.1 ≤ base e.1
    by (inl lt) = let r = rises 1 names i middle a e lie sized h here lt in omega (arith, r)
    by (inr ge) = let same : i ≡ middle = omega (arith, le, ge) in let is : a ≡ e = same_some a e (sym h ∙ ap (slice_get names) same ∙ here) in omega (arith, ap (λ (y : List ℕ × Object). base y.1) is)

  no_sooner : (i : ℕ) (a : List ℕ × Object) → slice_get names i ≡ Some a → middle ≤ i → base e.1 ≤ base a.1
  no_sooner i a h le = by (cases_lt middle i) where
    by : (middle < i) ⊎ (i ≤ middle) → base e.1 ≤ base a.1
    by (inl lt) = let r = rises 1 names middle i e a lie sized here h lt in omega (arith, r)
    by (inr ge) = let same : i ≡ middle = omega (arith, le, ge) in let is : a ≡ e = same_some a e (sym h ∙ ap (slice_get names) same ∙ here) in omega (arith, ap (λ (y : List ℕ × Object). base y.1) is)

  pub go_up : base e.1 < at → Searched names at (middle + 1) high
  go_up lt = record { below = λ i a h le. let r = no_later i a h (omega (arith, le)) in omega (arith, r, lt); above = so_far.above }

  pub go_down : at < base e.1 → Searched names at low middle
  go_down lt = record { below = so_far.below; above = λ i a h le. let r = no_sooner i a h le in omega (arith, r, lt) }

-- all was searched
pub searched_none : (names : Names) (at low high : ℕ) → Searched names at low high → high ≤ low → name_at names at ≡ []
searched_none names at low high s le = name_missing names at (λ i e h same. by i e h same (cases_lt i low)) where
  by : (i : ℕ) (e : List ℕ × Object) → slice_get names i ≡ Some e → base e.1 ≡ at → (i < low) ⊎ (low ≤ i) → ⊥
  by i e h same (inl lt) = let r = s.below i e h lt in omega (arith, r, same)
  by i e h same (inr ge) = let r = s.above i e h (omega (arith, le, ge)) in omega (arith, r, same)
