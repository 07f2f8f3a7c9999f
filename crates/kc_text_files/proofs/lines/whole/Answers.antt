use Rattle.std.proofs.Common.{sym, ◌∙◌}
use Rattle.kc_text_files.proofs.Loops.{with_last, without_last}
use Rattle.kc_text_files.proofs.lines.whole.Goals as goal

pub returns-then-is_empty : goal.returns-then-is_empty
returns-then-is_empty c = without_last (λ row. row.now) c.args.rows.now c.in-Some.before.now c.in-Some.last.now c.in-Some.ensures.cases.0 (sym c.is_empty.ensures ∙ c.if-is_empty.true)

pub returns : goal.returns
returns c = with_last (λ row. row.now) c.args.rows.now c.in-Some.before.now c.in-Some.last.now c.in-Some.ensures.cases.0 (sym c.is_empty.ensures ∙ c.if-is_empty.false)
