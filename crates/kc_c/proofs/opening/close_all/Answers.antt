use Rattle.std.proofs.Common.{arith}
use Rattle.kc_c.proofs.Closed.{closed_more}
use Rattle.kc_c.proofs.opening.close_all.Goals as goal

pub loop-handle-preserved : goal.loop-handle-preserved
loop-handle-preserved c = closed_more c.loop-handle.handles c.loop-handle.handle-index c.close.new.self (omega arith) c.close.ensures c.loop-handle.invariant
