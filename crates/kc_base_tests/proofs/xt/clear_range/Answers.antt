use Rattle.std.proofs.Common.{◌≡◌, suc, ◌+◌, ◌-◌, arith, rules}
use Rattle.kc_xt.proofs.Chain.{exits, goes_from, goes_write, goes_to, goes_on, stop_write, does_reply}
use Rattle.kc_base_tests.specs.Worked.{clears}
use Rattle.kc_base_tests.proofs.xt.clear_range.Goals as goal

-- out of the loop by `?`: a location is left, and its set stopped
pub returns-in_err-set-clause-goes : goal.returns-in_err-set-clause-goes
unfolding clears
returns-in_err-set-clause-goes g c =
    let left : c.args.end - c.loop-l.l ≡ suc (c.args.end - (c.loop-l.l + 1)) = omega arith in
    exits c.from_residual.ensures.1 (goes_to c.loop-l.invariant.goes (rw left (stop_write c.in_err-set.ensures.goes)))

-- round the loop: a location is left, and it was set
pub loop-l-preserved : goal.loop-l-preserved
unfolding clears
loop-l-preserved g c =
    let left : c.args.end - c.loop-l.l ≡ suc (c.args.end - (c.loop-l.l + 1)) = omega arith in
    record {
      goes = goes_on c.loop-l.invariant.goes (rw left (goes_write goes_from c.in_ok-set.ensures.goes));
      size = search rules;
    }

-- past the loop: no location is left
pub returns-clause-goes : goal.returns-clause-goes
unfolding clears
returns-clause-goes g c =
    let left : c.args.end - c.loop-l.l ≡ 0 = omega arith in
    goes_to c.loop-l.invariant.goes (rw left does_reply)
