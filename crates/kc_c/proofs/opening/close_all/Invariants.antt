use Rattle.std.proofs.Common.{◌≡◌, false, take}
use Rattle.kc_c.specs.Clients.{some_open}
use Rattle.kc_c.proofs.opening.close_all.Given as goal

-- the first are closed
abbrev pub invariant-loop-handle : goal.invariant-loop-handle
invariant-loop-handle l = some_open (take l.handle-index l.handles) ≡ false
