use Rattle.kc_jobs_laws.proofs.Acts.{releasing}
use Rattle.kc_jobs_laws.proofs.jobs.Jobs.release.Goals as goal

pub returns-clause-takes : goal.returns-clause-takes
returns-clause-takes c = rw c.release_job.ensures (releasing c.args.self.now c.requires.laid c.args.line c.args.ready c.requires.line c.requires.ready)
