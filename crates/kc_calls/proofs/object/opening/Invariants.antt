use Rattle.std.proofs.Common.{◌≡◌, length, take, drop}
use Rattle.kc_calls.specs.Told.{places_from}
use Rattle.kc_script_bundle.specs.Script.{cells}
use Rattle.kc_script_bundle.specs.State.{opening_value}
use Rattle.kc_calls.proofs.object.opening.Given as goal

-- the first are opened, and those behind the last cell are as they were
abbrev pub invariant-loop-i : goal.invariant-loop-i
invariant-loop-i l = record {
  size : length l.values ≡ length l.fn.values;
  done : take l.i l.values ≡ places_from (opening_value l.structure) 0 l.i;
  rest : drop (cells l.structure) l.values ≡ drop (cells l.structure) l.fn.values;
}
