use Rattle.std.proofs.Common.{◌≡◌, ◌≤◌, [], drop, length}
use Rattle.std.specs.Prelude.{Result}
use Rattle.kc_term.specs.Row.{row_of}
use Rattle.kc_model.specs.declared.reply.Reply.{Reply}
use Rattle.kc_term.specs.Meaning.{parts_meaning, greatest_end}
use Rattle.kc_term.specs.Tree.{trees}
use Rattle.kc_xt.specs.Law.{Obeys}
use Rattle.kc_xt.specs.Log.{Log}
use Rattle.kc_xt.specs.declared.stop.Stop.{Stop}
use Rattle.kc_term.proofs.row.run_row.Given as goal

-- Each operation replied an item at most. Where what is left obeys its meaning behind them, all do.
abbrev pub invariant-loop-operation : goal.invariant-loop-operation
invariant-loop-operation g l = record {
  room : length l.items ≤ l.operation-index;
  size : g.P.Peek.locations l.xt.peek ≡ g.P.Peek.locations l.fn.xt.peek;
  law : (r : Result Reply Stop) (z : Log g.row.P.Denot) →
      Obeys g.P.Peek.peek_gives (parts_meaning g.O.Transact.meaning (trees (row_of (drop l.operation-index l.ops))) l.items) (greatest_end g.O.Transact.end l.ops) l.xt r z →
      Obeys g.P.Peek.peek_gives (parts_meaning g.O.Transact.meaning (trees (row_of l.ops)) []) (greatest_end g.O.Transact.end l.ops) l.fn.xt r z;
}
