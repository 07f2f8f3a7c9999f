use Rattle.std.proofs.Common.{◌≡◌, ◌++◌, length, take}
use Rattle.std.specs.Arc.{arc_value}
use Rattle.kc_c.specs.Clients.{AreOpened}
use Rattle.kc_c.proofs.opening.deal.Given as goal

-- the first handles have their callers
abbrev pub invariant-loop-caller : goal.invariant-loop-caller
invariant-loop-caller l = record {
  all : l.yielded ++ l.caller-iterator.rest.items ≡ l.fn.callers.items;
  number : l.number ≡ length l.yielded;
  count : length l.handles ≡ length l.fn.handles;
  opened : AreOpened (arc_value l.store) 0 (take l.number l.handles);
}
