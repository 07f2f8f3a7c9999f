-- A handle may cross threads, as all that it holds may. What a client remembers of its caller is a `Snapshot`, which has no bytes and
-- of which no proof is made by itself; so neither is one of what holds a client.
use denote.Param.Send.{IsSend, IsSync, struct_send, struct_sync, plain_send, recorded_send, recorded_sync}
use denote.Struct.Declared.{shape}
use Rattle.std.proofs.Crossing.{Arc-send, Vec-send, crosses}
use Rattle.std.proofs.alloc.Global.TheSendSync as heap
use Rattle.std.proofs.option.Option.TheSendSync as option
use Rattle.std.specs.contracts.option.Option as Option
use Rattle.std.specs.contracts.snapshot.Snapshot as Snapshot
use Rattle.kc_holder.proofs.holder.Holder.TheSendSync as holder
use Rattle.kc_roll.proofs.roll.Page.TheSendSync as page
use Rattle.kc_roll.proofs.roll.Roll.TheSendSync as roll
use Rattle.kc_roll.specs.contracts.roll.Roll as Roll
use Rattle.kc_store.proofs.store.Caller.TheSendSync as caller
use Rattle.kc_store.specs.contracts.store.Caller as Caller
use Rattle.kc_lasting.proofs.era.Era.TheSendSync as era
use Rattle.kc_lasting.proofs.line.End.TheSendSync as end
use Rattle.kc_lasting.proofs.shared.Place.TheSendSync as place
use Rattle.kc_lasting.specs.contracts.client.Client as Client
use Rattle.kc_lasting.specs.contracts.client.Fresh as Fresh
use Rattle.kc_lasting.specs.contracts.era.Era as Era
use Rattle.kc_lasting.specs.contracts.eras.Eras as Eras
use Rattle.kc_lasting.specs.contracts.eras.ErasFits.TheImpl.{ghosts as fits}
use Rattle.kc_lasting.specs.contracts.handle.LastingCaller as LastingCaller
use Rattle.kc_lasting.specs.contracts.line.End as End
use Rattle.kc_lasting.specs.contracts.line.Line as Line
use Rattle.kc_lasting.specs.contracts.shared.Shared as Shared

remembered : IsSend (Snapshot.the_row Caller.the_row)
remembered = search crosses

client : IsSend (Client.the_field).row
client = struct_send (shape Client.the_type) (
  Arc-send Era.the_row era.the_send era.the_sync,
  (caller.the_send, (plain_send _ _ _ _ _, (plain_send _ _ _ _ _, (remembered, tt)))),
)

fresh : IsSend Fresh.the_row
fresh = recorded_send (Fresh.the_field).row _ _ (Fresh.the_type).to_one (struct_send (shape Fresh.the_type) (client, tt))

eras : IsSend Eras.the_row
eras = recorded_send (Eras.the_field).row _ _ (Eras.the_type).to_one (struct_send (shape Eras.the_type) (
  plain_send _ _ _ _ _,
  (
    plain_send _ _ _ _ _,
    (
      page.the_send Line.the_row,
      (
        client,
        (
          Vec-send (Option.the_row Fresh.the_row) (option.the_send Fresh.the_row fresh),
          (plain_send _ _ _ _ _, (Vec-send (Option.the_row End.the_row) (option.the_send End.the_row end.the_send), tt)),
        ),
      ),
    ),
  ),
))

shared_send : IsSend Shared.the_row
shared_send = recorded_send (Shared.the_field).row _ _ (Shared.the_type).to_one (struct_send (shape Shared.the_type) (
  heap.the_field_send,
  (holder.the_send Eras.the_row (Roll.the_row Line.the_row) fits eras, (roll.the_send Line.the_row, tt)),
))

shared_sync : IsSync Shared.the_row
shared_sync = recorded_sync (Shared.the_field).row _ _ (Shared.the_type).to_one (struct_sync (shape Shared.the_type) (
  heap.the_field_sync,
  (holder.the_sync Eras.the_row (Roll.the_row Line.the_row) fits eras, (roll.the_sync Line.the_row, tt)),
))

pub handle_send : IsSend LastingCaller.the_row
handle_send = recorded_send (LastingCaller.the_field).row _ _ (LastingCaller.the_type).to_one (struct_send (shape LastingCaller.the_type) (
  Arc-send Shared.the_row shared_send shared_sync,
  (client, (place.the_field_send, tt)),
))
