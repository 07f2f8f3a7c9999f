use denote.Param.Send.{sendable}
use Rattle.kc_lasting.proofs.Sent.{handle_send}
use Rattle.kc_uses_lasting.proofs.Works.TheSendSync.{the_send}
use Rattle.kc_uses_lasting.proofs.by_two.Goals as goal

pub join-requires-send-F : goal.join-requires-send-F
join-requires-send-F g c κs within = search (sendable, handle_send, the_send) depth 20

pub join-requires-send-A : goal.join-requires-send-A
join-requires-send-A g c κs within = search (sendable, handle_send) depth 20
