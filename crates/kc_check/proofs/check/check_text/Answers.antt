use Rattle.kc_check.proofs.Exact.{refused}
use Rattle.kc_check.proofs.check.check_text.Goals as goal

pub returns-clause-refuses : goal.returns-clause-refuses
returns-clause-refuses c = let (bytes, spells) = c.requires.spelled in refused spells c.args.text.now c.make_tests.result c.make_tests.ensures.fault
