use Rattle.kc_model.proofs.Pens.{puts_none}
use Rattle.kc_history.proofs.text.put_reply_line.Goals as goal

pub returns-in-End : goal.returns-in-End
returns-in-End g c = rw c.in-End.is (puts_none _)
