use Rattle.std.proofs.Common.{arith, sym, subst, Ok}
use Rattle.kc_bank.proofs.PayLemmas.{as_meant, credited_other, obeys_reply}
use Rattle.kc_bank.specs.Bank.{credit_end, credited, find_of}
use Rattle.kc_hash.specs.Meaning.{hash_end, hash_meaning}
use Rattle.kc_model.specs.declared.Reply.TheVariants.{Empty}
use Rattle.kc_xt.proofs.Composed.{obeys_exits, obeys_then, obeys_then_stops}
use Rattle.kc_xt.specs.Law.{Obeys}
use Rattle.kc_bank.proofs.bank.CreditTransact.run.Goals as goal

pub returns-in_err-balance-clause-law : goal.returns-in_err-balance-clause-law
returns-in_err-balance-clause-law g c =
    obeys_exits c.from_residual.ensures.1
    (obeys_then_stops (credit_end c.args.self.now) (hash_meaning (find_of c.args.self.now)) (credited c.args.self.now) _ _ _
    (as_meant hash_meaning hash_end (credit_end c.args.self.now) c.find.ensures (omega arith) c.in_err-balance.ensures.law))

pub returns-in-Value-clause-law : goal.returns-in-Value-clause-law
returns-in-Value-clause-law g c =
    obeys_then (credit_end c.args.self.now) (hash_meaning (find_of c.args.self.now)) (credited c.args.self.now) _ _ _ _ _
    (as_meant hash_meaning hash_end (credit_end c.args.self.now) c.find.ensures (omega arith) c.in_ok-balance.ensures.law)
    (subst (λ a. Obeys g.P.Peek.peek_gives (credited c.args.self.now a) (credit_end c.args.self.now) c.run.new.xt c.run-in-Value.result c.run-in-Value.new.xt) (sym c.in-Value.is)
    (as_meant hash_meaning hash_end (credit_end c.args.self.now) c.put.ensures (omega arith) c.run-in-Value.ensures.law))

pub returns-in_default-clause-law : goal.returns-in_default-clause-law
returns-in_default-clause-law g c =
    obeys_then (credit_end c.args.self.now) (hash_meaning (find_of c.args.self.now)) (credited c.args.self.now) _ _ _ _ _
    (as_meant hash_meaning hash_end (credit_end c.args.self.now) c.find.ensures (omega arith) c.in_ok-balance.ensures.law)
    (subst (λ m. Obeys g.P.Peek.peek_gives m (credit_end c.args.self.now) c.run.new.xt (Ok Empty) c.run.new.xt)
    (sym (credited_other c.args.self.now _ c.in_default.not-Value))
    (obeys_reply Empty _ _))
