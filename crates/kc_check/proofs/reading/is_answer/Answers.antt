use Rattle.std.specs.Prelude.{codes}
use Rattle.kc_check.proofs.Answered.{says_answer}
use Rattle.kc_check.proofs.Itemized.{is_word}
use Rattle.kc_check.proofs.reading.is_answer.Goals as goal

pub returns : goal.returns
returns c = says_answer c.args.text.now c.eq-stranded.result c.eq-cancelled.result c.eq-large.result c.eq-none.result c.are_items.result
    (is_word c.args.text.now c.as_slice.result.now (codes "stranded") c.eq-stranded.result c.eq-stranded.ensures c.as_slice.ensures)
    (is_word c.args.text.now c.as_slice-2.result.now (codes "cancelled") c.eq-cancelled.result c.eq-cancelled.ensures c.as_slice-2.ensures)
    (is_word c.args.text.now c.as_slice-3.result.now (codes "toolarge") c.eq-large.result c.eq-large.ensures c.as_slice-3.ensures)
    (is_word c.args.text.now c.as_slice-4.result.now (codes "-") c.eq-none.result c.eq-none.ensures c.as_slice-4.ensures)
    c.are_items.ensures
