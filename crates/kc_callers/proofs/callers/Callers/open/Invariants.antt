use Rattle.std.proofs.Common.{◌≡◌, ◌++◌, length}
use Rattle.kc_callers.specs.Homes.{AreHomesOf}
use Rattle.kc_callers.proofs.callers.Callers.open.Given as goal

abbrev pub invariant-loop-caller : goal.invariant-loop-caller
invariant-loop-caller l = record {
  all : l.yielded ++ l.caller-iterator.rest.items ≡ l.fn.callers.items;
  many : length l.desk.places.items ≡ length l.yielded;
  homes : AreHomesOf l.fn.store l.desk.places.items;
  home : l.home.0 ≡ l.fn.store;
}
