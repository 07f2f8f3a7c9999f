use Rattle.kc_sched.proofs.Acts.{opens}
use Rattle.kc_sched.proofs.sched.lay_sched.Goals as goal

pub returns-clause-opens : goal.returns-clause-opens
returns-clause-opens c = record { at_opening = λ m as_laid. opens _ m c.in_ok-jobs.ensures.many (c.in_ok-jobs.ensures.opens.at_opening m as_laid) }
