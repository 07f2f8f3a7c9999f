use denote.Param.Send.{sendable}
use Rattle.kc_lasting.proofs.Sent.{handle_send}
use Rattle.kc_lasting_tests.proofs.waiting.by_two.Goals as goal

pub join-came-requires-send-F : goal.join-came-requires-send-F
join-came-requires-send-F g c κs within = search (sendable, handle_send) depth 20
