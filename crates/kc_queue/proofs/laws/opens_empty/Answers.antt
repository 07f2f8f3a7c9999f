use Rattle.kc_queue.proofs.Values.{opened_empty}
use Rattle.kc_queue.proofs.laws.opens_empty.Goals as goal

pub returns : goal.returns
returns c = opened_empty
