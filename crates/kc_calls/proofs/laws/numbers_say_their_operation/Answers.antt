use Rattle.std.proofs.Common.{refl}
use Rattle.kc_calls.proofs.Saying.{op_says, op_waits}
use Rattle.kc_calls.specs.Said.{call_said}
use Rattle.kc_calls.proofs.laws.numbers_say_their_operation.Goals as goal

pub returns-clause-act : goal.returns-clause-act
returns-clause-act c o h = op_says o h

pub returns-clause-waits : goal.returns-clause-waits
returns-clause-waits c o h = op_waits o h

pub returns-clause-say : goal.returns-clause-say
unfolding call_said
returns-clause-say c n = refl
