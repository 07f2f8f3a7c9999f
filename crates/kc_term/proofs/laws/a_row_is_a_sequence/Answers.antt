use Rattle.std.proofs.Common.{refl}
use Rattle.kc_term.proofs.Rows.{row-operations}
use Rattle.kc_term.proofs.laws.a_row_is_a_sequence.Goals as goal

pub returns-clause-meaning : goal.returns-clause-meaning
returns-clause-meaning g c = λ os. refl

pub returns-clause-operations : goal.returns-clause-operations
returns-clause-operations g c = row-operations
