-- What C is told of a reply.
use Rattle.std.specs.Prelude.{ℕ, zero, suc, ◌+◌, true, false, List, [], ◌∷◌, Option, Some, None, slice_get}
use Rattle.kc_calls.specs.declared.reply.KcasReply.{KcasReply}
use Rattle.kc_calls.specs.declared.reply.TheConstants.{NONE, UNIT, VALUE, BOOL, EMPTY, FULL}
use Rattle.kc_model.specs.declared.reply.Item.{Item}
use Rattle.kc_model.specs.declared.reply.Item.TheVariants as item

abbrev pub told_item : Item → KcasReply
told_item item.Unit = record { kind = UNIT; value = 0 }
told_item (item.Value v) = record { kind = VALUE; value = v }
told_item (item.Bool true) = record { kind = BOOL; value = 1 }
told_item (item.Bool false) = record { kind = BOOL; value = 0 }
told_item item.Empty = record { kind = EMPTY; value = 0 }
told_item item.Full = record { kind = FULL; value = 0 }

-- an item, or nothing where there is none
abbrev pub told_or_none : Option Item → KcasReply
told_or_none (Some x) = told_item x
told_or_none None = record { kind = NONE; value = 0 }

-- what stands at each of so many places, from this one on
unfoldable pub places_from : {X : Type 0} → (ℕ → X) → ℕ → ℕ → List X
places_from f i zero = []
places_from f i (suc n) = f i ∷ places_from f (i + 1) n

-- so many replies: at each place the item there, and nothing behind the last item
abbrev pub replies_told : List Item → ℕ → List KcasReply
replies_told items n = places_from (λ i. told_or_none (slice_get items i)) 0 n
