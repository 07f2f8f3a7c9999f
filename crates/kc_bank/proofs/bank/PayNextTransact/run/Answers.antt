use Rattle.std.proofs.Common.{arith, sym, subst, Ok}
use Rattle.kc_bank.proofs.PayLemmas.{as_meant, paid_other, obeys_reply}
use Rattle.kc_bank.specs.Bank.{credit_end, credit_meaning, next_of, paid, pay_end}
use Rattle.kc_model.specs.declared.Reply.TheVariants.{Empty}
use Rattle.kc_queue.specs.Meaning.{queue_end, queue_meaning}
use Rattle.kc_xt.proofs.Composed.{obeys_exits, obeys_then, obeys_then_stops}
use Rattle.kc_xt.specs.Law.{Obeys}
use Rattle.kc_bank.proofs.bank.PayNextTransact.run.Goals as goal

pub returns-in_err-account-clause-law : goal.returns-in_err-account-clause-law
returns-in_err-account-clause-law g c =
    obeys_exits c.from_residual.ensures.1
    (obeys_then_stops (pay_end c.args.self.now) (queue_meaning (next_of c.args.self.now)) (paid c.args.self.now) _ _ _
    (as_meant queue_meaning queue_end (pay_end c.args.self.now) c.next.ensures (omega arith) c.in_err-account.ensures.law))

pub returns-in-Value-clause-law : goal.returns-in-Value-clause-law
returns-in-Value-clause-law g c =
    obeys_then (pay_end c.args.self.now) (queue_meaning (next_of c.args.self.now)) (paid c.args.self.now) _ _ _ _ _
    (as_meant queue_meaning queue_end (pay_end c.args.self.now) c.next.ensures (omega arith) c.in_ok-account.ensures.law)
    (subst (λ a. Obeys g.P.Peek.peek_gives (paid c.args.self.now a) (pay_end c.args.self.now) c.run.new.xt c.run-in-Value.result c.run-in-Value.new.xt) (sym c.in-Value.is)
    (as_meant credit_meaning credit_end (pay_end c.args.self.now) c.credit.ensures (omega arith) c.run-in-Value.ensures.law))

pub returns-in_default-clause-law : goal.returns-in_default-clause-law
returns-in_default-clause-law g c =
    obeys_then (pay_end c.args.self.now) (queue_meaning (next_of c.args.self.now)) (paid c.args.self.now) _ _ _ _ _
    (as_meant queue_meaning queue_end (pay_end c.args.self.now) c.next.ensures (omega arith) c.in_ok-account.ensures.law)
    (subst (λ m. Obeys g.P.Peek.peek_gives m (pay_end c.args.self.now) c.run.new.xt (Ok Empty) c.run.new.xt)
    (sym (paid_other c.args.self.now _ c.in_default.not-Value))
    (obeys_reply Empty _ _))
