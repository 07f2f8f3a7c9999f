use Rattle.kc_calls.proofs.Feeding.{fed_nothing, is_fed_so}
use Rattle.kc_calls.proofs.Fits.{operation_fits}
use Rattle.kc_calls.proofs.sequence.run_behind.Goals as goal

pub run-requires-clause-fit : goal.run-requires-clause-fit
run-requires-clause-fit g c = operation_fits c.args.op.now c.requires.fit

pub returns-then-op-le-OR-clause-law : goal.returns-then-op-le-OR-clause-law
returns-then-op-le-OR-clause-law g c = is_fed_so c.args.items.now c.args.op.now c.args.op.now _ _ _ c.requires.fit (fed_nothing c.args.items.now c.args.op.now c.if-op-le-OR.true) c.run.ensures.law
