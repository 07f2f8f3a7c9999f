use Rattle.std.proofs.Common.{◌≡◌, drop}
use Rattle.kc_c.specs.Clients.{some_open}
use Rattle.kc_c.proofs.opening.some_is_open.Given as goal

-- of those left one is open where one of all is
abbrev pub invariant-loop-handle : goal.invariant-loop-handle
invariant-loop-handle l = record {
  same : l.handles ≡ l.fn.handles;
  left : some_open (drop l.handle-index l.handles) ≡ some_open l.fn.handles;
}
