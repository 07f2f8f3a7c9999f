use Rattle.std.proofs.Common.{arith, sym, ◌∙◌}
use Rattle.kc_calls.proofs.Feeding.{fed_end, fed_fits, is_fed_so}
use Rattle.kc_calls.proofs.sequence.run_fed.Goals as goal

pub run-requires-clause-fit : goal.run-requires-clause-fit
run-requires-clause-fit g c = fed_fits c.args.items.now c.args.op.now c.in-Some.operation c.requires.fit (sym c.fed.ensures ∙ c.in-Some.is)

pub run-requires-clause-within : goal.run-requires-clause-within
run-requires-clause-within g c = omega (arith, fed_end c.args.items.now c.args.op.now c.in-Some.operation c.requires.fit (sym c.fed.ensures ∙ c.in-Some.is), c.requires.within)

pub returns-in-Some-clause-law : goal.returns-in-Some-clause-law
returns-in-Some-clause-law g c =
    let is = sym c.fed.ensures ∙ c.in-Some.is in
    is_fed_so c.args.items.now c.args.op.now c.in-Some.operation _ _ _ c.requires.fit is c.run.ensures.law
