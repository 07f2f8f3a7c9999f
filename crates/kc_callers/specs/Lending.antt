-- What stands in places.
use Rattle.std.specs.Prelude.{◌≡◌, ℕ, ◌<◌, ◌++◌, ◌∷◌, [], List, length, slice_index_or, Result, Ok, Err}
use Rattle.kc_holder.specs.Lent.{HolderView}

-- it fits the tag of the place of this number
abbrev pub FitsPlace : {T X : Type 0} → (T → X → Type 0) → List (HolderView T) → ℕ → X → Type 0
FitsPlace {T} fits places n x = (n < length places) × ((d : HolderView T) → fits (slice_index_or places n d).tag x)

-- a place more at the end, with this tag; or no memory was there, and nothing changed
abbrev pub AddsPlace : {T A E : Type 0} → Result A E → T → List (HolderView T) → List (HolderView T) → Type 0
AddsPlace {T} (Ok _) tag before after = (h : HolderView T) × (h.tag ≡ tag) × (after ≡ before ++ h ∷ [])
AddsPlace (Err _) tag before after = after ≡ before
