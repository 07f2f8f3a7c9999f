use Rattle.std.proofs.Common.{refl}
use Rattle.kc_script_runs.proofs.Waited.{given, not_the_last}
use Rattle.kc_script_runs.specs.Looks.IsWithoutLooks.{end, leave, keep}
use Rattle.kc_script_runs.proofs.worked.a_look_and_a_commit_by_hand.Goals as goal

pub returns-clause-given : goal.returns-clause-given
returns-clause-given c = given

pub returns-clause-behind : goal.returns-clause-behind
returns-clause-behind c = not_the_last

pub returns-clause-without : goal.returns-clause-without
returns-clause-without c = leave _ refl (keep _ 1 (keep _ 1 end))
