use Rattle.std.proofs.Common.{◌≤◌, ◌-◌, length}
use Rattle.kc_script_printing.proofs.Bases.{Searched}
use Rattle.kc_script_bundle.specs.Script.{names_of}
use Rattle.kc_script_printing.proofs.naming.name_at.Given as goal

abbrev pub invariant-loop-low : goal.invariant-loop-low
invariant-loop-low l = (l.high ≤ length l.objects.entries) × Searched (names_of l.objects) l.at l.low l.high

abbrev pub decreases-loop-low : goal.decreases-loop-low
decreases-loop-low l = l.high - l.low
