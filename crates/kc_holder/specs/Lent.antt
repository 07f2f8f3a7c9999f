-- A value in a slot, which one at a time takes out.
use Rattle.std.specs.Prelude.{◌≡◌, ◌≢◌, ℕ, ◌∷◌, Option, Some, length, slice_index}
use mathlib.Core.Option.{some}
use lib.ListN.{get_elem?}
use Rattle.atomic_table.specs.Seated.{TableId}
use Rattle.atomic_table.specs.Table as table
use Rattle.atomic_table.specs.Table.{Me}

-- which holder it is, and its tag
pub record HolderView (T : Type 0) : Type 0 where
  pub of : TableId
  pub tag : T

module _ {T X : Type 0} (fits : T → X → Type 0) where
  -- while the word is 0, a value that fits the tag is in the slot
  pub record LendsKept (tag : T) (s : table.State (Option X) T) : Type 0 where
    pub one_word : length s.words ≡ 1
    pub one_slot : length s.homes ≡ 1
    pub home : slice_index s.words 0 ≡ 0 → (x : X) × (get_elem? s.homes 0 ≡ some (some (Some x))) × fits tag x

  -- the word was 0, and one has a value that fits the tag that one knows; or nothing changed
  abbrev pub TakesOut : Me (Option X) T → ℕ → Me (Option X) T → Type 0
  TakesOut me found after = (found ≡ 0 → (x : X) × (after ≡ (me.0, (0, Some x) ∷ me.1)) × fits me.0 x) × (found ≢ 0 → after ≡ me)
