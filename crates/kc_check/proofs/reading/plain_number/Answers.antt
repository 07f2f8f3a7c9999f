use Rattle.kc_check.proofs.Matched.{not_both}
use Rattle.kc_check.proofs.Placed.{plain_found}
use Rattle.kc_check.proofs.reading.plain_number.Goals as goal

pub returns-then-not-is_plain_number : goal.returns-then-not-is_plain_number
returns-then-not-is_plain_number c = λ p. not_both c.is_plain_number.result _ (c.is_plain_number.ensures.1 p) c.if-not-is_plain_number.true

pub returns : goal.returns
returns c = plain_found c.args.word.now c.number_of.result (c.is_plain_number.ensures.0 c.if-not-is_plain_number.false) c.number_of.ensures.value
