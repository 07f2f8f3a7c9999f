use Rattle.std.proofs.Common.{sym, subst}
use Rattle.kc_model.specs.Footprint.{IsBelow}
use Rattle.kc_locked.proofs.store.LockedStore.commit_waiting.Goals as goal

pub returns-clause-bound : goal.returns-clause-bound
returns-clause-bound g c = subst (IsBelow (g.T.Transact.end c.args.transaction.now)) (sym c.of.ensures.footprint) c.commit_waiting_into-answer.ensures.bound
