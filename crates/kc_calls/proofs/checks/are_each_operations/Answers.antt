use Rattle.std.proofs.Common.{sym, ◌∙◌, true≢false}
use Rattle.kc_calls.proofs.Fits.{each_there}
use Rattle.kc_calls.specs.Meaning.{IsOperation}
use Rattle.kc_calls.proofs.checks.are_each_operations.Goals as goal

pub returns-then-not-is_operation : goal.returns-then-not-is_operation
returns-then-not-is_operation c = (λ h. absurd (true≢false (sym h)), λ h. absurd (true≢false (sym (c.is_operation.ensures.1 (each_there (IsOperation c.args.locations) c.args.ops.now c.loop-op.op-index _ c.loop-op-test.true h)) ∙ c.if-not-is_operation.true)))
