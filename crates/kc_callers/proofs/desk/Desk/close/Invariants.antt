use Rattle.std.proofs.Common.{◌≡◌, ◌++◌, length, vec_capacity, IfSome}
use Rattle.std.specs.List.{AllZip}
use Rattle.kc_callers.proofs.desk.Desk.close.Given as goal

abbrev pub invariant-loop-place : goal.invariant-loop-place
invariant-loop-place g l = record {
  all : l.yielded ++ l.place-iterator.rest.items ≡ l.fn.self.places.items;
  space : vec_capacity l.values ≡ length l.fn.self.places.items;
  many : length l.values.items ≡ length l.yielded;
  each : AllZip (λ h x. IfSome x (g.X.Fits.fits h.tag)) l.yielded l.values.items;
}
