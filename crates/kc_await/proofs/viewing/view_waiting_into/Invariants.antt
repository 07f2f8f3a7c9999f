use Rattle.kc_await.specs.Viewing.{HungOnViews}
use Rattle.kc_store.specs.Knows.{OnlyLearns}
use Rattle.kc_xt.specs.Meaning.{limited}
use Rattle.kc_await.proofs.viewing.view_waiting_into.Given as goal

abbrev pub invariant-loop : goal.invariant-loop
invariant-loop g l = record {
  learns : OnlyLearns l.fn.caller l.caller;
  hung : HungOnViews (limited (g.T.Transact.most l.fn.transaction) (g.T.Transact.meaning l.fn.transaction)) l.fn.caller l.caller;
}
