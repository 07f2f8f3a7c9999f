use Rattle.std.proofs.Common.{◌≡◌, ◌++◌, length, vec_capacity}
use Rattle.kc_callers.proofs.Homes.{StandFrom}
use Rattle.kc_callers.proofs.closed.all_home.Given as goal

abbrev pub invariant-loop-one : goal.invariant-loop-one
invariant-loop-one l = record {
  all : l.yielded ++ l.one-iterator.rest.items ≡ l.fn.idle.items;
  space : vec_capacity l.callers ≡ length l.fn.idle.items;
  many : length l.callers.items ≡ length l.yielded;
  stand : StandFrom l.fn.store 0 l.callers.items;
}
