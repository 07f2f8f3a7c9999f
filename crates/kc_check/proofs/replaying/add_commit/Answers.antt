use Rattle.kc_script_runs.proofs.Limits.{few_lines}
use Rattle.kc_check.proofs.replaying.add_commit.Goals as goal

pub add_print-requires-clause-reads : goal.add_print-requires-clause-reads
add_print-requires-clause-reads g c = (few_lines _ _ _ _ c.in-Some.ensures.commits.answers c.requires.lines).0

pub add_print-requires-clause-puts : goal.add_print-requires-clause-puts
add_print-requires-clause-puts g c = (few_lines _ _ _ _ c.in-Some.ensures.commits.answers c.requires.lines).1
