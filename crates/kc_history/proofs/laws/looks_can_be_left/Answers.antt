use Rattle.kc_history.proofs.Entries.{without_looks}
use Rattle.kc_history.proofs.laws.looks_can_be_left.Goals as goal

pub returns : goal.returns
returns c s e xs ys t h = without_looks e t s h
