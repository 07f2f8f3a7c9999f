use Rattle.std.proofs.Common.{◌∙◌}
use Rattle.kc_run.proofs.Dealt.{all_dealt, shares_fit}
use Rattle.kc_run.proofs.locked.open_locked.Goals as goal

pub open-requires : goal.open-requires
open-requires c = record { shares = shares_fit c.args.threads.now c.as_slice.result.now (c.as_slice.ensures.value ∙ c.in_ok-shares.ensures) c.requires.threads.1 c.requires.commands }

pub returns-in-Ok-clause-passes : goal.returns-in-Ok-clause-passes
returns-in-Ok-clause-passes c = all_dealt _ c.args.threads.now c.as_slice.result.now _ (c.as_slice.ensures.value ∙ c.in_ok-shares.ensures) c.in-Ok.ensures.ok.dealt
