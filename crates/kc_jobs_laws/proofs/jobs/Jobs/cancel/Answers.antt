use Rattle.kc_jobs.specs.declared.jobs.TheConstants.{CANCELLED, WAITING}
use Rattle.kc_jobs_laws.proofs.Acts.{settled_by}
use Rattle.kc_jobs_laws.proofs.jobs.Jobs.cancel.Goals as goal

pub returns-clause-takes : goal.returns-clause-takes
returns-clause-takes c = rw c.cancel_job.ensures (settled_by c.args.self.now c.requires.laid c.args.job WAITING CANCELLED 0 c.end_of.result c.end_of.ensures)
