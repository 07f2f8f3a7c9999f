use Rattle.std.proofs.Common.{◌≡◌, ◌+◌, ◌≤◌, length}
use Rattle.std.specs.Prelude.{reverse}
use Rattle.kc_script_lines.specs.Words.{lines}
use Rattle.kc_script.proofs.Lines.{lines_left, most_left}
use Rattle.kc_script.specs.Reading.{read_from, reader_state}
use Rattle.kc_script.proofs.reading.all_lines.Given as goal

abbrev pub invariant-loop-left : goal.invariant-loop-left
invariant-loop-left l = (l.line + most_left (λ bytes. bytes.now) l.left ≤ length l.bytes + 1) × (read_from (reader_state l.reader) (reverse l.atomics.items) (l.line + 1) (lines_left (λ bytes. bytes.now) l.left) ≡ read_from (reader_state l.fn.reader) (reverse l.fn.atomics.items) 1 (lines l.bytes))

abbrev pub decreases-loop-left : goal.decreases-loop-left
decreases-loop-left l = most_left (λ bytes. bytes.now) l.left
