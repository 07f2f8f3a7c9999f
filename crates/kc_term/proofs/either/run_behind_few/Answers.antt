use Rattle.std.proofs.Common.{arith, sym, refl, true≢false}
use Rattle.kc_xt.proofs.Composed.{obeys_first_else, obeys_first_stays, obeys_wider}
use Rattle.kc_term.proofs.either.run_behind_few.Goals as goal

pub returns-then-not-is_retry-clause-law : goal.returns-then-not-is_retry-clause-law
returns-then-not-is_retry-clause-law g c =
    obeys_first_stays _ _ (g.B.Transact.meaning c.args.second.now) _ _ _ (λ e. true≢false (sym (c.if-not-is_retry.ensures.1 e)))
    (obeys_wider (g.A.Transact.end c.args.first.now) _ (omega arith) _ _ _ _ c.run-tried.ensures.law)

pub returns-clause-law : goal.returns-clause-law
returns-clause-law g c =
    let waited = rw (c.if-not-is_retry.ensures.0 refl) at c.run-tried.ensures.law in
    let back = rw c.snapshot-before.ensures.lines at c.rollback.ensures in
    obeys_first_else _ _ _ _ _ _ _ _ c.snapshot-before.ensures.rising
    (obeys_wider (g.A.Transact.end c.args.first.now) _ (omega arith) _ _ _ _ waited) back
    (obeys_wider (g.B.Transact.end c.args.second.now) _ (omega arith) _ _ _ _ c.run.ensures.law)
