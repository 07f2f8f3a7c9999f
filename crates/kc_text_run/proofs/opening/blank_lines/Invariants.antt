use Rattle.std.proofs.Common.{◌≡◌, ◌≤◌, length, vec_capacity}
use Rattle.kc_text_run.proofs.opening.blank_lines.Given as goal

abbrev pub invariant-loop-i : goal.invariant-loop-i
invariant-loop-i l = (length l.lines.items ≡ l.i) × (l.fn.count ≤ vec_capacity l.lines)
