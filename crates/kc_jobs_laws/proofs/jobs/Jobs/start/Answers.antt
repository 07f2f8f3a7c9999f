use Rattle.kc_jobs_laws.proofs.Acts.{starting}
use Rattle.kc_jobs_laws.proofs.jobs.Jobs.start.Goals as goal

pub returns-clause-takes : goal.returns-clause-takes
returns-clause-takes c = rw c.start_job.ensures (starting c.args.self.now c.requires.laid c.args.ready c.requires.ready)
