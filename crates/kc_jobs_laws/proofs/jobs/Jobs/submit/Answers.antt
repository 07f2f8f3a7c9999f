use Rattle.kc_jobs_laws.proofs.Acts.{submitting}
use Rattle.kc_jobs_laws.proofs.jobs.Jobs.submit.Goals as goal

pub returns-clause-takes : goal.returns-clause-takes
returns-clause-takes c = rw c.submit_job.ensures (submitting c.args.self.now c.requires.laid c.args.line c.args.job c.requires.line)
