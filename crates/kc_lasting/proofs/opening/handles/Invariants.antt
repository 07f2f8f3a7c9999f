use Rattle.std.proofs.Common.{◌≡◌, ◌+◌, ◌∷◌, [], length}
use Rattle.std.specs.Prelude.{All}
use Rattle.kc_lasting.specs.Eras.{first_line}
use Rattle.kc_lasting.specs.Opening.{IsFirst, IsFirstClient}
use Rattle.kc_lasting.proofs.opening.handles.Given as goal

abbrev pub invariant-loop-fresh : goal.invariant-loop-fresh
invariant-loop-fresh l = record {
  shared : l.shared.value.roll ≡ l.fn.roll;
  of : l.base.of ≡ l.fn.roll;
  seen : l.base.seen ≡ first_line l.fn.eras.keeper.caller.of ∷ [];
  given : All (IsFirst l.fn.roll l.fn.eras.keeper.caller.of) l.given.items;
  rest : All (IsFirstClient l.fn.eras.keeper.caller.of) l.fresh-iterator.rest.items;
  count : length l.given.items + length l.fresh-iterator.rest.items ≡ length l.fn.clients.items;
}
