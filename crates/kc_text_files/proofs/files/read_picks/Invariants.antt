use Rattle.std.proofs.Common.{◌≤◌, length, map, vec_capacity, min}
use Rattle.kc_text_files.proofs.Loops.{PicksTo}
use Rattle.kc_text_files.proofs.files.read_picks.Given as goal
use Rattle.kc_text_files.specs.declared.TheConstants.{MOST_PICKS}

abbrev pub invariant-loop-i : goal.invariant-loop-i
invariant-loop-i l = PicksTo l.fn.texts (map (λ row. row.now) l.rows) l.picks.items l.i × (min (length l.rows) MOST_PICKS ≤ vec_capacity l.picks)
