use Rattle.std.proofs.Common.{◌≡◌, ◌≤◌, [], drop, length}
use Rattle.std.specs.Prelude.{Result}
use Rattle.kc_calls.specs.Meaning.{calls_end, row_behind}
use Rattle.kc_model.specs.declared.reply.Reply.{Reply}
use Rattle.kc_xt.specs.Law.{Obeys}
use Rattle.kc_xt.specs.Log.{Log}
use Rattle.kc_xt.specs.declared.stop.Stop.{Stop}
use Rattle.kc_calls.proofs.sequence.run_sequence.Given as goal

-- Each operation replied an item at most. Where what is left obeys its meaning behind them, all do.
abbrev pub invariant-loop-op : goal.invariant-loop-op
invariant-loop-op g l = record {
  room : length l.items ≤ l.op-index;
  size : g.P.Peek.locations l.xt.peek ≡ g.P.Peek.locations l.fn.xt.peek;
  law : (r : Result Reply Stop) (z : Log g.row.P.Denot) →
      Obeys g.P.Peek.peek_gives (row_behind (drop l.op-index l.ops) l.items) (calls_end l.ops) l.xt r z →
      Obeys g.P.Peek.peek_gives (row_behind l.ops []) (calls_end l.ops) l.fn.xt r z;
}
