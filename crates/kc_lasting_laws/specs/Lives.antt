-- How many commits seats have begun, each of which takes one life of a descriptor at most.
use Rattle.std.specs.Prelude.{ℕ, ◌+◌, ◌==◌, List, [], ◌∷◌, if◌then◌else◌}
use Rattle.kc_lasting_laws.specs.kc_machine_steps.declared.task.Event.{Event}
use Rattle.kc_lasting_laws.specs.kc_machine_steps.declared.task.Event.TheVariants.{Begin, Step, Halt}
use Rattle.kc_lasting_laws.specs.kc_machine_steps.declared.task.Task.{Task}
use Rattle.kc_lasting_laws.specs.kc_machine_steps.declared.task.Task.TheVariants as task

abbrev pub one_if_commit : Task → ℕ
one_if_commit (task.Look l) = 0
one_if_commit (task.Commit f m) = 1
one_if_commit (task.Hang reads) = 0
one_if_commit (task.Leave reads) = 0
one_if_commit (task.Swap r after) = 0

-- of seat k
abbrev pub commit_by : ℕ → Event → ℕ
commit_by k (Begin j t) = if j == k then one_if_commit t else 0
commit_by k (Step j) = 0
commit_by k (Halt j) = 0

-- how many commits seat k has begun
abbrev pub commits_by : ℕ → List Event → ℕ
commits_by k [] = 0
commits_by k (e ∷ es) = commit_by k e + commits_by k es
