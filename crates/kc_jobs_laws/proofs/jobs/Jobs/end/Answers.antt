use Rattle.kc_jobs.specs.declared.jobs.TheConstants.{DONE, RUNNING}
use Rattle.kc_jobs_laws.proofs.Acts.{settled_by}
use Rattle.kc_jobs_laws.proofs.jobs.Jobs.end.Goals as goal

pub returns-clause-takes : goal.returns-clause-takes
returns-clause-takes c = rw c.end_job.ensures (settled_by c.args.self.now c.requires.laid c.args.job RUNNING DONE c.args.value c.end_of.result c.end_of.ensures)
