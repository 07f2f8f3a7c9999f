use Rattle.std.proofs.Common.{refl}
use Rattle.kc_run.proofs.Passes.{all_dealt}
use Rattle.kc_run.proofs.kcas.open_kcas.Goals as goal

pub returns-in-Ok-clause-passes : goal.returns-in-Ok-clause-passes
returns-in-Ok-clause-passes c = let o = c.in-Ok.ensures.ok in all_dealt c.in-Ok.opened.0 c.args.threads.now c.in-Ok.opened.1.items _ o.shown refl o.dealt c.requires.commands
