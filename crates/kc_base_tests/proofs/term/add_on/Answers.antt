use Rattle.std.proofs.Common.{◌≡◌, nat_lt, true, false, arith}
use Rattle.std.proofs.lemmas.Bool.Decides.{nat_tests}
use Rattle.kc_xt.proofs.Chain.{exits, stop_read, then_read, does_true, does_false, stop_write, then_write, does_reply, does_retry}
use Rattle.kc_base_tests.proofs.term.add_on.Goals as goal

pub returns-in_err-value-clause-goes : goal.returns-in_err-value-clause-goes
returns-in_err-value-clause-goes g c = exits c.from_residual.ensures.1 (stop_read c.in_err-value.ensures.goes)

pub returns-then-value-op-clause-goes : goal.returns-then-value-op-clause-goes
returns-then-value-op-clause-goes g c =
    let less : nat_lt c.in_ok-value.value c.args.op.least ≡ true = grind (arith, nat_tests, c.if-value-op.true) in
    then_read c.in_ok-value.ensures.goes (does_true _ _ _ less does_retry)

pub returns-in_err-set-clause-goes : goal.returns-in_err-set-clause-goes
returns-in_err-set-clause-goes g c =
    let enough : nat_lt c.in_ok-value.value c.args.op.least ≡ false = grind (arith, nat_tests, c.if-value-op.false) in
    exits c.from_residual-in_err-set.ensures.1 (then_read c.in_ok-value.ensures.goes (does_false _ _ _ enough (stop_write c.in_err-set.ensures.goes)))

pub returns-clause-goes : goal.returns-clause-goes
returns-clause-goes g c =
    let enough : nat_lt c.in_ok-value.value c.args.op.least ≡ false = grind (arith, nat_tests, c.if-value-op.false) in
    then_read c.in_ok-value.ensures.goes (does_false _ _ _ enough (then_write c.in_ok-set.ensures.goes does_reply))
