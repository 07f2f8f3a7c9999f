use Rattle.kc_shelf_laws.proofs.Names.{opened_are, stand_behind}
use Rattle.kc_shelf_laws.specs.Names.{empty_hands}
use Rattle.kc_xt.specs.Meaning.{values}
use Rattle.kc_shelf_laws.proofs.laws.names_stand_in_histories.Goals as goal

pub returns : goal.returns
returns c = λ t places n s e es legal below none keep. stand_behind t places n es s e empty_hands legal below keep (opened_are t places n (values s) none)
