use Rattle.kc_calls.proofs.Fits.{are_fit, ends_within}
use Rattle.kc_calls.proofs.checks.are_operations.Goals as goal

pub returns-then-are_fed-clause-fit : goal.returns-then-are_fed-clause-fit
returns-then-are_fed-clause-fit c h = are_fit c.args.locations c.requires c.args.ops.now h

pub returns-then-are_fed-clause-end : goal.returns-then-are_fed-clause-end
returns-then-are_fed-clause-end c h = ends_within c.args.locations c.args.ops.now h.each
