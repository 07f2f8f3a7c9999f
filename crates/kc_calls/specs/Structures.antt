-- Which structure an object of C says, and how its cells open.
use Rattle.std.specs.Prelude.{◌≡◌, ℕ, ◌+◌, ◌*◌, ◌<◌, ◌≤◌, ◌==◌, Bool, true, false, List, ◌++◌, length, drop, Option, Some, None, nat_le, cond, refl}
use Rattle.std.proofs.lemmas.Bool.{leb-true}
use Rattle.kc_cache.proofs.Same.{table_laid, order_laid}
use Rattle.kc_calls.specs.declared.kinds.TheConstants.{LOCATION, STACK, QUEUE, TABLE, GROW, CACHE, MVAR, PROMISE, ACCUMULATOR}
use Rattle.kc_calls.specs.declared.object.KcasObject.{KcasObject}
use Rattle.kc_cells.specs.declared.accumulator.TheConstants.{MOST_CELLS}
use Rattle.kc_model.specs.declared.plain_store.TheConstants.{MOST_LOCATIONS}
use Rattle.kc_script_bundle.specs.Script.{cells}
use Rattle.kc_script_bundle.specs.State.{opening_cells}
use Rattle.kc_script_bundle.specs.declared.object.Object.{Object}
use Rattle.kc_script_bundle.specs.declared.object.Object.TheVariants as object
use Rattle.kc_xt.specs.declared.structure.TheConstants.{MOST_ITEMS, MOST_BUCKETS}

-- what comes of a number, where it is at most another one
abbrev pub call_tested : {X : Type 0} (n most : ℕ) → (n ≤ most → Option X) → (t : Bool) → nat_le n most ≡ t → Option X
call_tested n most go true e = go (leb-true n most e)
call_tested n most go false e = None

unfoldable pub call_at_most : {X : Type 0} (n most : ℕ) → (n ≤ most → Option X) → Option X
call_at_most n most go = call_tested n most go (nat_le n most) refl

-- a size is 1 to the most
abbrev pub sized : (n most : ℕ) → (1 ≤ n → Option Object) → Option Object
sized n most go = call_at_most 1 n (λ some. call_at_most n most (λ few. go some))

-- the last cell lies before this location
abbrev pub call_laid : (n : ℕ) → (n ≤ MOST_LOCATIONS → Object) → Option Object
call_laid n make = call_at_most n MOST_LOCATIONS (λ room. Some (make room))

-- a location opens with 0
unfoldable pub location_at : ℕ → Option Object
location_at at = call_laid (at + 1) (λ room. object.Loc (record { 0 = at }) 0)

unfoldable pub call_stack_at : ℕ → ℕ → Option Object
call_stack_at at cap = sized cap MOST_ITEMS (λ some. call_laid (at + 1 + cap) (λ room. object.Stack (record { base = record { 0 = at }; cap = cap; laid = room })))

unfoldable pub call_queue_at : ℕ → ℕ → Option Object
call_queue_at at cap = sized cap MOST_ITEMS (λ some. call_laid (at + 2 + cap) (λ room. object.Queue (record { base = record { 0 = at }; cap = cap; some = some; laid = room })))

unfoldable pub call_table_at : ℕ → ℕ → ℕ → Option Object
call_table_at at buckets cap = sized buckets MOST_BUCKETS (λ some_buckets. sized cap MOST_ITEMS (λ some. call_laid (at + 2 + buckets + 3 * cap) (λ room. object.Hash (record { base = record { 0 = at }; buckets = buckets; cap = cap; some_buckets = some_buckets; some = some; laid = room }))))

unfoldable pub call_grow_at : ℕ → ℕ → Option Object
call_grow_at at cap = sized cap MOST_ITEMS (λ some. call_laid (at + 3 + cap + 3 * cap) (λ room. object.Grow (record { base = record { 0 = at }; cap = cap; some = some; laid = room })))

unfoldable pub call_cache_at : ℕ → ℕ → ℕ → Option Object
call_cache_at at buckets cap = sized buckets MOST_BUCKETS (λ some_buckets. sized cap MOST_ITEMS (λ some. call_laid (at + 6 + buckets + 7 * cap) (λ room. object.Cache (record { base = record { 0 = at }; buckets = buckets; cap = cap; some_buckets = some_buckets; some = some; laid = room; table_laid = table_laid at buckets cap room; order_laid = order_laid at buckets cap room }))))

unfoldable pub call_mvar_at : ℕ → Option Object
call_mvar_at at = call_laid (at + 2) (λ room. object.Mvar (record { base = record { 0 = at }; laid = room }))

unfoldable pub call_promise_at : ℕ → Option Object
call_promise_at at = call_laid (at + 2) (λ room. object.Promise (record { base = record { 0 = at }; laid = room }))

unfoldable pub accumulator_at : ℕ → ℕ → Option Object
accumulator_at at cells = sized cells MOST_CELLS (λ some. call_laid (at + cells) (λ room. object.Acc (record { base = record { 0 = at }; cells = cells; some = some; laid = room })))

-- the structure that an object says: of a kind that there is, of sizes that it may have, with all cells in a store
unfoldable pub structure_of : KcasObject → Option Object
structure_of o =
    cond (o.kind == LOCATION) (location_at o.base)
    (cond (o.kind == STACK) (call_stack_at o.base o.capacity)
    (cond (o.kind == QUEUE) (call_queue_at o.base o.capacity)
    (cond (o.kind == TABLE) (call_table_at o.base o.buckets o.capacity)
    (cond (o.kind == GROW) (call_grow_at o.base o.capacity)
    (cond (o.kind == CACHE) (call_cache_at o.base o.buckets o.capacity)
    (cond (o.kind == MVAR) (call_mvar_at o.base)
    (cond (o.kind == PROMISE) (call_promise_at o.base)
    (cond (o.kind == ACCUMULATOR) (accumulator_at o.base o.capacity) None))))))))

abbrev pub cells_of : Option Object → ℕ
cells_of (Some o) = cells o
cells_of None = 0

-- what becomes of values: the first are those that a structure's cells open with, where there is one and they have room
abbrev pub OpensStructure : Option Object → List ℕ → Bool → List ℕ → Type 0
OpensStructure (Some o) before true after = (cells o ≤ length before) × (after ≡ opening_cells o ++ drop (cells o) before)
OpensStructure (Some o) before false after = (length before < cells o) × (after ≡ before)
OpensStructure None before true after = ⊥
OpensStructure None before false after = after ≡ before
