use Rattle.kc_keep.proofs.Serving.{opens_unworn, opens_so}
use Rattle.kc_keep.proofs.opening.open_for_two.Goals as goal

pub returns-clause-opens : goal.returns-clause-opens
returns-clause-opens c = opens_so c.in-Ok.store _ _ _ _ c.values.ensures c.in-Ok.ensures.opens

pub returns-clause-unworn : goal.returns-clause-unworn
returns-clause-unworn c = opens_unworn c.in-Ok.store _ _ _ c.values.ensures c.in-Ok.ensures.ok.0 c.in-Ok.ensures.opens
