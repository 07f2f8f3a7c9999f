use Rattle.kc_jobs_laws.proofs.Acts.{awaiting}
use Rattle.kc_jobs_laws.proofs.jobs.Jobs.await_end.Goals as goal

pub returns-clause-takes : goal.returns-clause-takes
returns-clause-takes c = awaiting c.args.self.now c.requires.laid c.args.job c.end_of.result c.end_of.ensures
