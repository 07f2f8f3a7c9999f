use denote.Param.Send.{sendable}
use Rattle.kc_lasting.proofs.Sent.{handle_send}
use Rattle.kc_lasting_tests.proofs.threads.by_four.Goals as goal

pub join-requires-send-F : goal.join-requires-send-F
join-requires-send-F g c κs within = search (sendable, handle_send) depth 20
