use Rattle.std.proofs.Common.{arith}
use Rattle.kc_calls.proofs.Placing.{room}
use Rattle.kc_calls.proofs.Saying.{location_said}
use Rattle.kc_calls.proofs.operation.KcasOp.on_location.Goals as goal

pub returns : goal.returns
returns c = location_said c.args.self.now c.if-self-ne-LOCATION.false (room _ _ _ c.has_room.ensures c.if-not-has_room.false (omega arith)) c.loc_op.result c.loc_op.ensures
