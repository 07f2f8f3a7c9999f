use Rattle.std.proofs.Common.{◌≡◌, ◌+◌, drop}
use Rattle.kc_history.specs.Records.{lists_of}
use Rattle.kc_script_storm.specs.Summary.{ok_commands}
use Rattle.kc_script_storm.proofs.summary.ok_commands.Given as goal

abbrev pub invariant-loop-i : goal.invariant-loop-i
invariant-loop-i l = l.count + ok_commands (lists_of (drop l.i l.records)) ≡ ok_commands (lists_of l.records)
