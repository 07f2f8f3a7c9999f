-- How a line that declares an object is read: its tests in their order. Private to the parser and its proofs, but for
-- `IsPlaced`; what a line declares is `Declares` of Canonical, what is wrong with it the first failing test of Fields.
use Rattle.std.specs.Prelude.{◌≡◌, ℕ, ◌+◌, ◌*◌, ◌≤◌, Bool, true, false, List, [], ◌∷◌, length, Option, Some, Result, Ok, Err, nat_le, refl}
use Rattle.std.proofs.lemmas.Bool.{leb-true}
use Rattle.kc_cache.proofs.Same.{table_laid, order_laid}
use Rattle.kc_cells.specs.declared.accumulator.TheConstants.{MOST_CELLS}
use Rattle.kc_model.specs.declared.plain_store.TheConstants.{MOST_LOCATIONS}
use Rattle.kc_script_bundle.specs.declared.object.Object.{Object}
use Rattle.kc_script_lines.specs.Tests.{◌>>=◌, counted, word_at, number_to, positive_to}
use Rattle.kc_script_lines.specs.declared.fault.Limit.TheVariants.{Locations}
use Rattle.kc_script_lines.specs.declared.fault.Why.{Why}
use Rattle.kc_script_lines.specs.declared.fault.Why.TheVariants.{UnknownWord, BadNumber, TooMany}
use Rattle.kc_xt.specs.declared.structure.TheConstants.{MOST_ITEMS, MOST_BUCKETS}
use Rattle.kc_script_bundle.specs.declared.object.Object.TheVariants as object
use Rattle.kc_script_bundle.specs.Script.{Names, base, cells, next_from, IsSized}
use Rattle.kc_script_verbs.specs.declared.word.Kind.{Kind}
use Rattle.kc_script_verbs.specs.declared.word.Kind.TheVariants as kind
use Rattle.kc_script_verbs.specs.declared.word.Word.{Word}
use Rattle.kc_script_verbs.specs.declared.word.Word.TheVariants as word
use Rattle.kc_script_verbs.specs.Fields.{kind_fields}
use Rattle.kc_script_verbs.specs.Objects.{new_name}
use Rattle.kc_script_verbs.specs.Words.{word_of}

-- how many words stand behind the first
abbrev pub fields : Kind → ℕ
fields k = length (kind_fields k)

-- ---- objects, where all their cells are locations

-- what comes of a number that has to be at most another one
abbrev pub tested : {X : Type 0} (n most : ℕ) → Why → (n ≤ most → Result X Why) → (t : Bool) → nat_le n most ≡ t → Result X Why
tested n most why go true e = go (leb-true n most e)
tested n most why go false e = Err why

unfoldable pub at_most : {X : Type 0} (n most : ℕ) → Why → (n ≤ most → Result X Why) → Result X Why
at_most n most why go = tested n most why go (nat_le n most) refl

-- an object with its last cell before this location
abbrev pub laid : (n : ℕ) → (n ≤ MOST_LOCATIONS → Object) → Result Object Why
laid n make = at_most n MOST_LOCATIONS (TooMany Locations) (λ room. Ok (make room))

unfoldable pub loc_at : ℕ → ℕ → Result Object Why
loc_at at value = laid (at + 1) (λ room. object.Loc (record { 0 = at }) value)

unfoldable pub stack_at : ℕ → ℕ → Result Object Why
stack_at at cap = laid (at + 1 + cap) (λ room. object.Stack (record { base = record { 0 = at }; cap = cap; laid = room }))

unfoldable pub queue_at : ℕ → ℕ → Result Object Why
queue_at at cap = at_most 1 cap BadNumber (λ some. laid (at + 2 + cap) (λ room. object.Queue (record { base = record { 0 = at }; cap = cap; some = some; laid = room })))

unfoldable pub table_at : ℕ → ℕ → ℕ → Result Object Why
table_at at buckets cap = at_most 1 buckets BadNumber (λ some_buckets. at_most 1 cap BadNumber (λ some. laid (at + 2 + buckets + 3 * cap) (λ room. object.Hash (record { base = record { 0 = at }; buckets = buckets; cap = cap; some_buckets = some_buckets; some = some; laid = room }))))

unfoldable pub grow_at : ℕ → ℕ → Result Object Why
grow_at at cap = at_most 1 cap BadNumber (λ some. laid (at + 3 + cap + 3 * cap) (λ room. object.Grow (record { base = record { 0 = at }; cap = cap; some = some; laid = room })))

unfoldable pub cache_at : ℕ → ℕ → ℕ → Result Object Why
cache_at at buckets cap = at_most 1 buckets BadNumber (λ some_buckets. at_most 1 cap BadNumber (λ some. laid (at + 6 + buckets + 7 * cap) (λ room. object.Cache (record { base = record { 0 = at }; buckets = buckets; cap = cap; some_buckets = some_buckets; some = some; laid = room; table_laid = table_laid at buckets cap room; order_laid = order_laid at buckets cap room }))))

unfoldable pub mvar_at : ℕ → Result Object Why
mvar_at at = laid (at + 2) (λ room. object.Mvar (record { base = record { 0 = at }; laid = room }))

unfoldable pub promise_at : ℕ → Result Object Why
promise_at at = laid (at + 2) (λ room. object.Promise (record { base = record { 0 = at }; laid = room }))

unfoldable pub acc_at : ℕ → ℕ → Result Object Why
acc_at at cells = at_most 1 cells BadNumber (λ some. laid (at + cells) (λ room. object.Acc (record { base = record { 0 = at }; cells = cells; some = some; laid = room })))

-- the object that begins at a location, with the numbers behind its name
unfoldable pub object_at : ℕ → Kind → List (List ℕ) → Result Object Why
object_at at kind.Loc args = number_to 4294967295 (word_at args 1) >>= loc_at at
object_at at kind.Stack args = positive_to MOST_ITEMS (word_at args 1) >>= stack_at at
object_at at kind.Queue args = positive_to MOST_ITEMS (word_at args 1) >>= queue_at at
object_at at kind.Table args = positive_to MOST_BUCKETS (word_at args 1) >>= λ buckets. positive_to MOST_ITEMS (word_at args 2) >>= table_at at buckets
object_at at kind.Grow args = positive_to MOST_ITEMS (word_at args 1) >>= grow_at at
object_at at kind.Cache args = positive_to MOST_BUCKETS (word_at args 1) >>= λ buckets. positive_to MOST_ITEMS (word_at args 2) >>= cache_at at buckets
object_at at kind.Mvar args = mvar_at at
object_at at kind.Promise args = promise_at at
object_at at kind.Acc args = positive_to MOST_CELLS (word_at args 1) >>= acc_at at

-- it begins at a location, with its last cell in a store, and is sized
abbrev pub IsAt : ℕ → Object → Type 0
IsAt at o = (base o ≡ at) × (at + cells o ≤ MOST_LOCATIONS) × IsSized o

-- the first location that no object has
abbrev pub next_location : Names → ℕ
next_location names = next_from 1 names

-- what a line declares behind these names
unfoldable pub declare : Names → Kind → List (List ℕ) → Result (List ℕ × Object) Why
declare names k args = do
  all ← counted (fields k) args
  name ← new_name names (word_at args 0)
  o ← object_at (next_location names) k args
  Ok (name, o)

-- a word that begins a declaration
abbrev pub declared_by : Names → Option Word → List (List ℕ) → Result (List ℕ × Object) Why
declared_by names (Some (word.Declare k)) args = declare names k args
declared_by names _ args = Err UnknownWord

-- what a line declares, with its first word
abbrev pub declared : Names → List (List ℕ) → Result (List ℕ × Object) Why
declared names [] = Err UnknownWord
declared names (first ∷ args) = declared_by names (word_of first) args

-- an object lies behind those before it, has room, and is sized
abbrev pub IsPlaced : Names → Object → Type 0
IsPlaced names o = IsAt (next_location names) o
