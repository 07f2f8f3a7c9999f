-- Where the objects of a script lie.
use Rattle.std.proofs.Common.{◌≡◌, ℕ, zero, suc, ◌+◌, ◌≤◌, ◌<◌, List, [], ◌∷◌, ◌++◌, length, get_or, refl, ap, ◌∙◌, arith, length-append}
use Rattle.std.specs.List.{flat_map}
use Rattle.kc_script_bundle.specs.Script.{Names, base, cells, next_from, LieFrom, CellsWithin}
use Rattle.kc_script_bundle.specs.State.{values_from, opening_value, opening_cells}
use Rattle.kc_script_bundle.specs.declared.object.Object.{Object}

-- one more object at the end
pub next_from-more : (at : ℕ) (names : Names) (entry : List ℕ × Object) → next_from at (names ++ entry ∷ []) ≡ next_from at names + cells entry.1
unfolding next_from
next_from-more at [] entry = refl
next_from-more at (first ∷ names) entry = next_from-more (at + cells first.1) names entry

-- objects that lie in order, and one more behind them
pub lies_more : (at : ℕ) (names : Names) (entry : List ℕ × Object) → LieFrom at names → base entry.1 ≡ next_from at names → LieFrom at (names ++ entry ∷ [])
unfolding next_from LieFrom
lies_more at [] entry h e = (e, tt)
lies_more at (first ∷ names) entry h e = (h.0, lies_more (at + cells first.1) names entry h.1 e)

-- the next location is not before the first
pub next_from-above : (at : ℕ) (names : Names) → at ≤ next_from at names
unfolding next_from
next_from-above at [] = omega arith
next_from-above at (entry ∷ names) = omega (arith, next_from-above (at + cells entry.1) names)

-- the cells of objects that lie in order are below the next location
cells_from : (at : ℕ) (names : Names) → 1 ≤ at → LieFrom at names → CellsWithin (next_from at names) names
unfolding next_from LieFrom
cells_from at [] first h = tt
cells_from at (entry ∷ names) first h = ((rw h.0 first, rw h.0 (next_from-above (at + cells entry.1) names)), cells_from (at + cells entry.1) names (omega (arith, first)) h.1)

pub cells_within : (names : Names) → LieFrom 1 names → CellsWithin (next_from 1 names) names
cells_within names h = cells_from 1 names (omega arith) h

pub length-values_from : (f : ℕ → ℕ) (i n : ℕ) → length (values_from f i n) ≡ n
length-values_from f i zero = refl
length-values_from f i (suc n) = ap suc (length-values_from f (i + 1) n)

-- a value by its place
pub value_at : (f : ℕ → ℕ) (i n k : ℕ) → k < n → get_or (values_from f i n) k 0 ≡ f (i + k)
value_at f i zero k lt = absurd (omega arith)
value_at f i (suc n) zero lt = let e : i ≡ i + 0 = omega arith in ap f e
value_at f i (suc n) (suc k) lt =
    let e : i + 1 + k ≡ i + suc k = omega arith in
    value_at f (i + 1) n k (omega arith) ∙ ap f e

-- each object has as many opening values as cells
pub length-opening_cells : (o : Object) → length (opening_cells o) ≡ cells o
length-opening_cells o = length-values_from (opening_value o) 0 (cells o)

-- the first location, and the opening values behind it
pub length-cells : (at : ℕ) (names : Names) → at + length (flat_map (λ entry. opening_cells entry.1) names) ≡ next_from at names
unfolding next_from
length-cells at [] = omega arith
length-cells at (entry ∷ names) =
    let more = length-cells (at + cells entry.1) names in
    omega (arith, more, length-opening_cells entry.1, length-append (opening_cells entry.1) (flat_map (λ e. opening_cells e.1) names))
