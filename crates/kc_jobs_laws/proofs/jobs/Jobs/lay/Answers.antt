use Rattle.kc_jobs_laws.proofs.Unknown.{unknown_at}
use Rattle.kc_jobs_laws.proofs.jobs.Jobs.lay.Goals as goal

pub returns-clause-opens : goal.returns-clause-opens
returns-clause-opens c = record { at_opening = λ m as_laid. unknown_at _ m (c.in_ok-states.ensures.opens.at_opening m as_laid) (c.in_ok-ends.ensures.opens.at_opening m (c.stays_under_additions.ensures.stores _ _ m c.in_ok-states.ensures.stays as_laid)) }
