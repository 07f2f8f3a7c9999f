use Rattle.std.proofs.Common.{◌≡◌, ◌++◌}
use Rattle.kc_locked.specs.Locked.{MatchesPasses}
use Rattle.kc_locked.proofs.store.gather.Given as goal

abbrev pub invariant-loop-pass : goal.invariant-loop-pass
invariant-loop-pass l = record {
  table : l.keeper.table_id ≡ l.memory.table_id;
  all : l.yielded ++ l.pass-iterator.rest.items ≡ l.fn.passes.items;
  matches : MatchesPasses l.keeper.me.0.parts l.yielded;
}
