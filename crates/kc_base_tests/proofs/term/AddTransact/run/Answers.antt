use Rattle.kc_base_tests.proofs.Worked.{add_law}
use Rattle.kc_base_tests.proofs.term.AddTransact.run.Goals as goal

pub returns-clause-law : goal.returns-clause-law
returns-clause-law g c = add_law _ _ _ _ _ c.add_on.ensures.goes
