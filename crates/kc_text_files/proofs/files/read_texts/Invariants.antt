use Rattle.std.proofs.Common.{◌≤◌, length, map, vec_capacity, min}
use Rattle.kc_text.specs.declared.texts.TheConstants.{MOST_TEXTS}
use Rattle.kc_text_files.proofs.Loops.{TextsTo}
use Rattle.kc_text_files.proofs.files.read_texts.Given as goal

abbrev pub invariant-loop-i : goal.invariant-loop-i
invariant-loop-i l = TextsTo (map (λ row. row.now) l.rows) l.texts.items l.i × (min (length l.rows) MOST_TEXTS ≤ vec_capacity l.texts)
