use Rattle.std.proofs.Common.{◌≡◌, ◌≤◌, take}
use Rattle.std.specs.Prelude.{count_by}
use Rattle.kc_script_storm.specs.Summary.{is_ok_command}
use Rattle.kc_script_storm.proofs.summary.ok_commands_of.Given as goal

abbrev pub invariant-loop-i : goal.invariant-loop-i
invariant-loop-i l = (l.count ≡ count_by is_ok_command (take l.i l.list.items)) × (l.count ≤ l.i)
