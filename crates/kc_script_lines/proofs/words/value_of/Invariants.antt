use Rattle.std.proofs.Common.{◌≡◌, ◌+◌, ◌≤◌, ◌^◌, drop}
use Rattle.kc_script_lines.specs.Words.{value_on}
use Rattle.kc_script_lines.proofs.words.value_of.Given as goal

abbrev pub invariant-loop-b : goal.invariant-loop-b
invariant-loop-b l = (value_on l.n (drop l.b-index l.word) ≡ value_on 0 l.word) × (l.n + 1 ≤ 10 ^ l.b-index)
