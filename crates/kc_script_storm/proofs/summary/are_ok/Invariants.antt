use Rattle.std.proofs.Common.{◌≡◌, drop}
use Rattle.std.specs.List.{list_all}
use Rattle.kc_script_storm.specs.Summary.{is_ok_item}
use Rattle.kc_script_storm.proofs.summary.are_ok.Given as goal

abbrev pub invariant-loop-i : goal.invariant-loop-i
invariant-loop-i l = list_all is_ok_item (drop l.i l.items) ≡ list_all is_ok_item l.items
