use Rattle.std.proofs.Common.{sym, arith}
use Rattle.kc_calls.proofs.Placing.{unlaid, room, laid_is}
use Rattle.kc_calls.specs.Structures.{location_at}
use Rattle.kc_calls.proofs.layout.location_at.Goals as goal

pub returns-then-not-has_room : goal.returns-then-not-has_room
unfolding location_at
returns-then-not-has_room c = sym (unlaid _ _ _ _ c.has_room.ensures c.if-not-has_room.true (omega arith))

pub returns : goal.returns
unfolding location_at
returns c = sym (laid_is _ _ (room _ _ _ c.has_room.ensures c.if-not-has_room.false (omega arith)))
