-- What becomes of a slot whose value was taken out.
use Rattle.std.specs.Prelude.{◌≡◌, true, false}
use Rattle.kc_model.specs.declared.reply.Reply.TheVariants as reply
use Rattle.kc_store.specs.Views.{CallerView}
use Rattle.kc_store.specs.declared.values.Outcome.{Outcome}
use Rattle.kc_store.specs.declared.values.Outcome.TheVariants as outcome
use Rattle.kc_shelf.specs.Handing.{ActCame, IsNoTicket}
use Rattle.kc_shelf.specs.declared.freeing.Freed.{Freed}
use Rattle.kc_shelf.specs.declared.freeing.Freed.TheVariants as freed
use Rattle.kc_shelf.specs.declared.freeing.Renewed.{Renewed}
use Rattle.kc_shelf.specs.declared.freeing.Renewed.TheVariants as renewed
use Rattle.kc_shelf.specs.declared.operation.ShelfAct.TheVariants as act
use Rattle.kc_shelf.specs.declared.vacant.Vacant.{Vacant}

-- the slot wasn't freed, and rests not
abbrev pub IsNotFreed : Outcome → Type 0
IsNotFreed (outcome.Done reply.Unit f) = ⊥
IsNotFreed (outcome.Done reply.Empty f) = ⊥
IsNotFreed _ = Unit {0}

-- the slot is free or rests, by an entry of the caller; or it comes back
abbrev pub Frees : Vacant → Freed → CallerView → CallerView → Type 0
Frees slot (freed.Done false f) c d = ActCame slot.shelf (act.Free slot.ticket) (outcome.Done reply.Unit f) c d
Frees slot (freed.Done true f) c d = ActCame slot.shelf (act.Free slot.ticket) (outcome.Done reply.Empty f) c d
Frees slot (freed.Kept back o) c d = (back ≡ slot) × IsNotFreed o × ActCame slot.shelf (act.Free slot.ticket) o c d

-- its next life began, by an entry of the caller that replied the ticket; or it comes back
abbrev pub RenewsSlot : Vacant → Renewed → CallerView → CallerView → Type 0
RenewsSlot slot (renewed.Done ticket f) c d = ActCame slot.shelf (act.Renew slot.ticket) (outcome.Done (reply.Value ticket) f) c d
RenewsSlot slot (renewed.Kept back o) c d = (back ≡ slot) × IsNoTicket o × ActCame slot.shelf (act.Renew slot.ticket) o c d
