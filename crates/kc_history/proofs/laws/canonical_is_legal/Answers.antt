use Rattle.kc_history.proofs.Exchange.{canonical_legal}
use Rattle.kc_history.proofs.laws.canonical_is_legal.Goals as goal

pub returns : goal.returns
returns c a s e ls ps well zeros h k = canonical_legal a well s e ls ps zeros h k
