-- The values with which a script opens, what its objects hold, and the lines that show it.
use Rattle.std.specs.Prelude.{◌≡◌, ℕ, zero, suc, ◌+◌, ◌-◌, List, [], ◌∷◌, ◌++◌, Option, Some, None, length, map, reverse, codes, decimal}
use Rattle.std.specs.List.{flat_map}
use Rattle.kc_script_bundle.specs.declared.object.Object.{Object}
use Rattle.kc_script_bundle.specs.declared.object.Object.TheVariants as object
use Rattle.kc_cache.specs.Content.{cache_shown, CacheStandsFor as CacheStands}
use Rattle.kc_cache.specs.Meaning.{cache_opening}
use Rattle.kc_cells.specs.Accumulator.{acc_opening, cells_sum, AccStandsFor}
use Rattle.kc_cells.specs.Mvar.{MvarStandsFor}
use Rattle.kc_cells.specs.OnePlace.{place_opening, value_held}
use Rattle.kc_cells.specs.Promise.{PromiseStandsFor}
use Rattle.kc_grow.specs.Content.{grow_opening, grown_shown, GrowStands}
use Rattle.kc_hash.specs.Content.{hash_opening, hash_shown as table_shown, HashStandsFor as HashStands}
use Rattle.kc_queue.specs.Meaning.{queue_opening, queue_head_cell, queue_count_cell, ring_cell, queue_head_in, back_of, queue_counted, QueueStandsFor as QueueStands}
use Rattle.kc_queue.specs.declared.queue.Queue.{Queue}
use Rattle.kc_script_bundle.specs.Script.{Names, Script, cells}
use Rattle.kc_stack.specs.Content.{stack_opening, StackStandsFor as StackStands}
use Rattle.kc_stack.specs.Meaning.{stack_counted}
use Rattle.kc_stack.specs.declared.stack.Stack.{Stack}
use Rattle.kc_xt.specs.Program.{wrapped}

-- ---- the opening

-- what a cell of an object holds at the opening
abbrev pub opening_value : Object → ℕ → ℕ
opening_value (object.Loc at value) i = value
opening_value (object.Stack s) i = stack_opening s i
opening_value (object.Queue q) i = queue_opening q i
opening_value (object.Mvar x) i = place_opening i
opening_value (object.Promise p) i = place_opening i
opening_value (object.Acc a) i = acc_opening a i
opening_value (object.Hash h) i = hash_opening h i
opening_value (object.Grow g) i = grow_opening g i
opening_value (object.Cache c) i = cache_opening c i

-- the values of so many cells, from this one on
abbrev pub values_from : (ℕ → ℕ) → ℕ → ℕ → List ℕ
values_from f i zero = []
values_from f i (suc n) = f i ∷ values_from f (i + 1) n

abbrev pub opening_cells : Object → List ℕ
opening_cells o = values_from (opening_value o) 0 (cells o)

-- location 0 has the number of threads and no flag; the cells of the objects follow
abbrev pub opening_values : Script → List ℕ
opening_values s = length s.threads ∷ flat_map (λ entry. opening_cells entry.1) s.objects

-- ---- contents

-- what an object holds: a number, items, pairs of key and value, or one value if there is one
pub data Content : Type 0 where
  number : ℕ → Content
  items : List ℕ → Content
  pairs : List (ℕ × ℕ) → Content
  place : Option ℕ → Content

-- The object's cells stand for a content: a stack's items from the top, a queue's from the front, a table's pairs in rising order of key,
-- a cache's from the most recently used.
abbrev pub Stands : Object → (ℕ → ℕ) → Content → Type 0
Stands (object.Loc at value) m c = c ≡ number (m at.0)
Stands (object.Stack s) m c = (xs : List ℕ) × StackStands s m xs × (c ≡ items (reverse xs))
Stands (object.Queue q) m c = (xs : List ℕ) × QueueStands q m xs × (c ≡ items xs)
Stands (object.Mvar x) m c = (v : Option ℕ) × MvarStandsFor x m v × (c ≡ place v)
Stands (object.Promise p) m c = (v : Option ℕ) × PromiseStandsFor p m v × (c ≡ place v)
Stands (object.Acc a) m c = (t : ℕ) × AccStandsFor a m t × (c ≡ number t)
Stands (object.Hash h) m c = (ps : List (ℕ × ℕ)) × HashStands h m ps × (c ≡ pairs ps)
Stands (object.Grow g) m c = (ps : List (ℕ × ℕ)) × GrowStands g m ps × (c ≡ pairs ps)
Stands (object.Cache x) m c = (ps : List (ℕ × ℕ)) × CacheStands x m ps × (c ≡ pairs ps)

-- each object's cells stand for its content
abbrev pub AllStand : Names → (ℕ → ℕ) → List Content → Type 0
AllStand [] m [] = Unit {0}
AllStand (entry ∷ names) m (c ∷ cs) = Stands entry.1 m c × AllStand names m cs
AllStand [] m (c ∷ cs) = ⊥
AllStand (entry ∷ names) m [] = ⊥

-- the cells of all objects stand for some contents
abbrev pub AreWellFormed : Names → (ℕ → ℕ) → Type 0
AreWellFormed names m = (contents : List Content) × AllStand names m contents

-- what an object holds at the opening: a location its value, and any other nothing
abbrev pub opening_content : Object → Content
opening_content (object.Loc at value) = number value
opening_content (object.Stack s) = items []
opening_content (object.Queue q) = items []
opening_content (object.Mvar x) = place None
opening_content (object.Promise p) = place None
opening_content (object.Acc a) = number 0
opening_content (object.Hash h) = pairs []
opening_content (object.Grow g) = pairs []
opening_content (object.Cache x) = pairs []

abbrev pub opening_contents : Names → List Content
opening_contents names = map (λ entry. opening_content entry.1) names

-- ---- what the cells show, whatever they hold

-- an item of a stack, counted from the top; a number of items above the capacity counts as the capacity
abbrev pub from_top : Stack → (ℕ → ℕ) → ℕ → ℕ
from_top s m i = m (s.base.0 + stack_counted s (m s.base.0) - i)

abbrev pub stack_shown : Stack → (ℕ → ℕ) → List ℕ
stack_shown s m = values_from (from_top s m) 0 (stack_counted s (m s.base.0))

-- an item of a queue, counted from the front; a head not below the capacity counts as 0
abbrev pub from_front : Queue → (ℕ → ℕ) → ℕ → ℕ
from_front q m i = m (ring_cell q (back_of q (queue_head_in q (m (queue_head_cell q))) i))

abbrev pub queue_shown : Queue → (ℕ → ℕ) → List ℕ
queue_shown q m = values_from (from_front q m) 0 (queue_counted q (m (queue_count_cell q)))

-- where the cells stand for a content, they show it
abbrev pub shown : Object → (ℕ → ℕ) → Content
shown (object.Loc at value) m = number (m at.0)
shown (object.Stack s) m = items (stack_shown s m)
shown (object.Queue q) m = items (queue_shown q m)
shown (object.Mvar x) m = place (value_held x.base.0 m)
shown (object.Promise p) m = place (value_held p.base.0 m)
shown (object.Acc a) m = number (wrapped (cells_sum m a.base.0 a.cells))
shown (object.Hash h) m = pairs (table_shown h m)
shown (object.Grow g) m = pairs (grown_shown g m)
shown (object.Cache c) m = pairs (cache_shown c m)

-- ---- the lines

abbrev pub number_text : ℕ → List ℕ
number_text n = codes " " ++ decimal n

abbrev pub pair_text : ℕ × ℕ → List ℕ
pair_text p = codes " " ++ decimal p.0 ++ codes "=" ++ decimal p.1

abbrev pub content_text : Content → List ℕ
content_text (number n) = number_text n
content_text (items xs) = flat_map number_text xs
content_text (pairs ps) = flat_map pair_text ps
content_text (place None) = codes " none"
content_text (place (Some v)) = number_text v

abbrev pub state_line : List ℕ → Content → List ℕ
state_line name c = name ++ content_text c ++ codes "\n"

-- a line for each object, in order of declaration
abbrev pub state_lines : Names → List Content → List ℕ
state_lines (entry ∷ names) (c ∷ cs) = state_line entry.0 c ++ state_lines names cs
state_lines [] cs = []
state_lines (entry ∷ names) [] = []

-- the lines that show a store, whatever its cells hold
abbrev pub state_text : Names → (ℕ → ℕ) → List ℕ
state_text names m = flat_map (λ entry. state_line entry.0 (shown entry.1 m)) names
