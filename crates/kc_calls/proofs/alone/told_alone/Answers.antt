use Rattle.kc_calls.proofs.Aloud.{told_one}
use Rattle.kc_calls.proofs.alone.told_alone.Goals as goal

pub returns : goal.returns
returns c = told_one _ _ _ (rw (c.first_value.ensures, c.as_slice.ensures.value) at c.item_on.ensures) c.told.ensures
