-- A slot that was emptied is of this store and shelf.
use Rattle.kc_shelf.specs.Handing.{IsSlotOf}
use Rattle.kc_shelf.specs.declared.handing.Dropped.{Dropped}
use Rattle.kc_shelf.specs.declared.handing.Dropped.TheVariants as dropped
use Rattle.kc_shelf.specs.declared.shelf.Shelf.{Shelf}
use Rattle.kc_shelf.specs.kc_store.Views.{StoreView}

abbrev pub HasSlotOf : {T : Type 0} → StoreView → Shelf → Dropped T → Type 0
HasSlotOf z t (dropped.Last value slot f) = IsSlotOf z t slot.ticket slot
HasSlotOf z t (dropped.Bare slot f) = IsSlotOf z t slot.ticket slot
HasSlotOf z t (dropped.Left o) = Unit {0}
