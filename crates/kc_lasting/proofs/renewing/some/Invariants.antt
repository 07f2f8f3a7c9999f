use Rattle.std.proofs.Common.{◌≡◌}
use Rattle.std.specs.Prelude.{All}
use Rattle.kc_lasting.specs.Kept.{MayBeFresh}
use Rattle.kc_lasting.specs.declared.client.Fresh.{Fresh}
use Rattle.kc_lasting.proofs.renewing.some.Given as goal

abbrev pub invariant-loop-client : goal.invariant-loop-client
invariant-loop-client l = record {
  given : All (MayBeFresh l._keeper.caller.of) l.all.items;
  rest : All (λ (x : Fresh). x.client.caller.of ≡ l._keeper.caller.of) l.client-iterator.rest.items;
}
