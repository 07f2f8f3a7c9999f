use Rattle.kc_text_run.proofs.Picks.{ReadTo}
use Rattle.kc_text_run.proofs.picking.read_picks.Given as goal

abbrev pub invariant-loop-i : goal.invariant-loop-i
invariant-loop-i g l = ReadTo l.texts l.pool l.place l.picks l.fn.caller l.caller l.fn.lines l.lines l.i
