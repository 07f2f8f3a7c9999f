use Rattle.std.proofs.Common.{arith}
use Rattle.kc_calls.proofs.Fits.{each_there, operation_fits}
use Rattle.kc_calls.specs.Meaning.{IsOperation}
use Rattle.kc_model.specs.declared.plain_store.TheConstants.{MOST_LOCATIONS}
use Rattle.kc_calls.proofs.calls.CallsTransact.run.Goals as goal

pub run-requires-clause-fit : goal.run-requires-clause-fit
run-requires-clause-fit g c = operation_fits _ (each_there (IsOperation MOST_LOCATIONS) c.args.self.now.ops.now 0 _ (omega (arith, c.in-len1.len_at_least)) c.requires.fit.each)
