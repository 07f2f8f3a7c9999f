use denote.Param.Send.{sendable}
use Rattle.kc_lasting.proofs.Sent.{handle_send}
use Rattle.kc_uses_lasting.proofs.Works.TheSendSync.{the_send}
use Rattle.kc_uses_lasting.proofs.serve.Goals as goal

pub join-a-requires-send-F : goal.join-a-requires-send-F
join-a-requires-send-F g c κs within = search (sendable, handle_send, the_send) depth 20

pub join-a-requires-send-A : goal.join-a-requires-send-A
join-a-requires-send-A g c κs within = search (sendable, handle_send) depth 20
