-- Scripts, as contracts see a bundle.
use Rattle.std.specs.Prelude.{◌≡◌, ℕ, ◌+◌, ◌≤◌, ◌⊎◌, List, [], ◌∷◌, map, String}
use Rattle.std.specs.String.{string_bytes}
use Rattle.std.specs.Global.{Global}
use Rattle.indexmap.specs.IndexMap.{IndexMap}
use Rattle.std.specs.declared.hash.FoldHasher.{FoldHasher}
use Rattle.std.specs.declared.hash.BuildHasherDefault.{BuildHasherDefault}
use Rattle.kc_script_bundle.specs.declared.object.Object.{Object}
use Rattle.kc_script_bundle.specs.declared.object.Object.TheVariants as object
use Rattle.kc_cache.specs.Meaning.{cache_cells}
use Rattle.kc_cells.specs.OnePlace.{place_cells}
use Rattle.kc_cells.specs.declared.accumulator.TheConstants.{MOST_CELLS}
use Rattle.kc_grow.specs.Meaning.{grow_cells}
use Rattle.kc_hash.specs.Meaning.{hash_cells}
use Rattle.kc_model.specs.declared.plain_store.TheConstants.{MOST_LOCATIONS}
use Rattle.kc_queue.specs.Meaning.{queue_cells}
use Rattle.kc_script_bundle.specs.declared.bundle.Bundle.{Bundle}
use Rattle.kc_script_bundle.specs.declared.operation.Command.{Command}
use Rattle.kc_stack.specs.Meaning.{stack_cells}
use Rattle.kc_xt.specs.declared.structure.TheConstants.{MOST_ITEMS, MOST_BUCKETS}

-- names with their objects, in order of declaration
abbrev pub Names : Type 0
Names = List (List ℕ × Object)

pub record Script : Type 0 where
  pub limit : ℕ
  pub objects : Names
  pub threads : List (List Command)

-- ---- a bundle as a script

abbrev pub Objects : Type 0
Objects = IndexMap (String Global) Object (BuildHasherDefault FoldHasher)

abbrev pub named : String Global × Object → List ℕ × Object
named entry = (string_bytes entry.0, entry.1)

abbrev pub names_of : Objects → Names
names_of objects = map named objects.entries

abbrev pub script_of : Bundle → Script
script_of b = record { limit = b.limit; objects = names_of b.objects; threads = map (λ commands. commands.items) b.threads.items }

-- ---- where its cells lie

-- how many cells an object has
abbrev pub cells : Object → ℕ
cells (object.Loc at value) = 1
cells (object.Stack s) = stack_cells s
cells (object.Queue q) = queue_cells q
cells (object.Mvar x) = place_cells
cells (object.Promise p) = place_cells
cells (object.Acc a) = a.cells
cells (object.Hash h) = hash_cells h
cells (object.Grow g) = grow_cells g
cells (object.Cache c) = cache_cells c

-- where its cells begin
abbrev pub base : Object → ℕ
base (object.Loc at value) = at.0
base (object.Stack s) = s.base.0
base (object.Queue q) = q.base.0
base (object.Mvar x) = x.base.0
base (object.Promise p) = p.base.0
base (object.Acc a) = a.base.0
base (object.Hash h) = h.base.0
base (object.Grow g) = g.base.0
base (object.Cache c) = c.base.0

-- it has the sizes that a declaration may give
abbrev pub IsSized : Object → Type 0
IsSized (object.Loc at value) = Unit {0}
IsSized (object.Stack s) = (1 ≤ s.cap) × (s.cap ≤ MOST_ITEMS)
IsSized (object.Queue q) = (1 ≤ q.cap) × (q.cap ≤ MOST_ITEMS)
IsSized (object.Mvar x) = Unit {0}
IsSized (object.Promise p) = Unit {0}
IsSized (object.Acc a) = (1 ≤ a.cells) × (a.cells ≤ MOST_CELLS)
IsSized (object.Hash h) = (1 ≤ h.buckets) × (h.buckets ≤ MOST_BUCKETS) × (1 ≤ h.cap) × (h.cap ≤ MOST_ITEMS)
IsSized (object.Grow g) = (1 ≤ g.cap) × (g.cap ≤ MOST_ITEMS)
IsSized (object.Cache c) = (1 ≤ c.buckets) × (c.buckets ≤ MOST_BUCKETS) × (1 ≤ c.cap) × (c.cap ≤ MOST_ITEMS)

abbrev pub AreSized : Names → Type 0
AreSized [] = Unit {0}
AreSized (entry ∷ names) = IsSized entry.1 × AreSized names

-- the first location behind these objects, which begin at this one
unfoldable pub next_from : ℕ → Names → ℕ
next_from at [] = at
next_from at (entry ∷ names) = next_from (at + cells entry.1) names

-- they lie one behind another, from this location on
unfoldable pub LieFrom : ℕ → Names → Type 0
LieFrom at [] = Unit {0}
LieFrom at (entry ∷ names) = (base entry.1 ≡ at) × LieFrom (at + cells entry.1) names

-- the objects lie one behind another from location 1 on, all in a store
pub record LiesInOrder (s : Script) : Type 0 where
  pub lie : LieFrom 1 s.objects
  pub within : next_from 1 s.objects ≤ MOST_LOCATIONS

-- its cells lie behind location 0, which is that of live threads, and below this number
abbrev pub ObjectIsWithin : ℕ → Object → Type 0
ObjectIsWithin n o = (1 ≤ base o) × (base o + cells o ≤ n)

abbrev pub CellsWithin : ℕ → Names → Type 0
CellsWithin n [] = Unit {0}
CellsWithin n (entry ∷ names) = ObjectIsWithin n entry.1 × CellsWithin n names

-- an object is among those that have names
abbrev pub HasObject : Names → Object → Type 0
HasObject [] o = ⊥
HasObject (entry ∷ names) o = (entry.1 ≡ o) ⊎ HasObject names o
