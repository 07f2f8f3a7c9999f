-- What putting and giving up answer.
use Rattle.std.specs.Prelude.{◌≡◌, ℕ}
use Rattle.kc_model.specs.declared.footprint.TheConstants.{MOST}
use Rattle.kc_model.specs.declared.reply.Reply.TheVariants as reply
use Rattle.kc_store.specs.Knows.{CommitsSo}
use Rattle.kc_store.specs.Views.{CallerView, StoreView}
use Rattle.kc_store.specs.declared.values.Outcome.{Outcome}
use Rattle.kc_store.specs.declared.values.Outcome.TheVariants as outcome
use Rattle.kc_shelf.specs.Meaning.{act_end, shelf_op, shelf_meaning}
use Rattle.kc_shelf.specs.declared.handing.Dropped.{Dropped}
use Rattle.kc_shelf.specs.declared.handing.Dropped.TheVariants as dropped
use Rattle.kc_shelf.specs.declared.handing.Put.{Put}
use Rattle.kc_shelf.specs.declared.handing.Put.TheVariants as put
use Rattle.kc_shelf.specs.declared.operation.ShelfAct.{ShelfAct}
use Rattle.kc_shelf.specs.declared.operation.ShelfAct.TheVariants as act
use Rattle.kc_shelf.specs.declared.shelf.Shelf.{Shelf}
use Rattle.kc_shelf.specs.declared.vacant.Vacant.{Vacant}
use Rattle.kc_xt.specs.Meaning.{limited}

-- a commit of the operation was answered so: what the answer says wherever what was read stands, and the caller's entry
abbrev pub ActCame : Shelf → ShelfAct → Outcome → CallerView → CallerView → Type 0
ActCame t a o c d = CommitsSo (limited MOST (shelf_meaning (shelf_op t a))) (act_end t a) o c d

-- no ticket was had
abbrev pub IsNoTicket : Outcome → Type 0
IsNoTicket (outcome.Done (reply.Value v) f) = ⊥
IsNoTicket _ = Unit {0}

-- it wasn't the last name
abbrev pub IsNotLast : Outcome → Type 0
IsNotLast (outcome.Done reply.Empty f) = ⊥
IsNotLast _ = Unit {0}

-- the value is there under the ticket that an entry of the caller replied; or it comes back
abbrev pub PutsValue : {T : Type 0} → Shelf → T → Put T → CallerView → CallerView → Type 0
PutsValue t value (put.Done ticket f) c d = ActCame t act.Reserve (outcome.Done (reply.Value ticket) f) c d
PutsValue t value (put.Blocked v ticket f) c d = (v ≡ value) × ActCame t act.Reserve (outcome.Done (reply.Value ticket) f) c d
PutsValue t value (put.Refused v o) c d = (v ≡ value) × IsNoTicket o × ActCame t act.Reserve o c d

-- the slot of this ticket, of this shelf in this store
abbrev pub IsSlotOf : StoreView → Shelf → (ticket : ℕ) → Vacant → Type 0
IsSlotOf z t v slot = (slot.store.now ≡ z) × (slot.shelf ≡ t) × (slot.ticket ≡ v)

-- the caller's entry gave the last name up, and this is a value that was put under that ticket; or it left it named
abbrev pub DropsName : {T : Type 0} → (ℕ → T → Type 0) → Shelf → (ticket : ℕ) → StoreView → Dropped T → CallerView → CallerView → Type 0
DropsName holds t v z (dropped.Last value slot f) c d = ∥ holds v value ∥₁ × IsSlotOf z t v slot × ActCame t (act.Drop v) (outcome.Done reply.Empty f) c d
DropsName holds t v z (dropped.Bare slot f) c d = IsSlotOf z t v slot × ActCame t (act.Drop v) (outcome.Done reply.Empty f) c d
DropsName holds t v z (dropped.Left o) c d = IsNotLast o × ActCame t (act.Drop v) o c d
