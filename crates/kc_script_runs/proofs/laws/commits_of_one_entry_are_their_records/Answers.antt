use Rattle.std.proofs.Common.{[]}
use Rattle.kc_script_runs.proofs.Given.{ones_added, ones_given}
use Rattle.kc_script_runs.proofs.laws.commits_of_one_entry_are_their_records.Goals as goal

pub returns-clause-entries : goal.returns-clause-entries
returns-clause-entries c k ms rs own = ones_added k ms [] rs own

pub returns-clause-given : goal.returns-clause-given
returns-clause-given c n k ms rs own = ones_given n k ms [] rs own
