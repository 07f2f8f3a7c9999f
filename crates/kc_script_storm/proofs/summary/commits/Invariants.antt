use Rattle.std.proofs.Common.{◌≡◌, ◌+◌, drop}
use Rattle.kc_history.specs.Records.{lists_of}
use Rattle.kc_script_storm.specs.Summary.{commits}
use Rattle.kc_script_storm.proofs.summary.commits.Given as goal

abbrev pub invariant-loop-i : goal.invariant-loop-i
invariant-loop-i l = l.count + commits (lists_of (drop l.i l.records)) ≡ commits (lists_of l.records)
