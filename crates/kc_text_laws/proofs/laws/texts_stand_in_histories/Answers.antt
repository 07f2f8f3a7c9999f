use Rattle.kc_text_laws.proofs.Holding.{opened_stand, stand_behind}
use Rattle.kc_text_laws.specs.Holding.{nobody}
use Rattle.kc_text_laws.proofs.laws.texts_stand_in_histories.Goals as goal

pub returns-clause-formed : goal.returns-clause-formed
returns-clause-formed c = λ t s e es legal z keep. (stand_behind t es s e nobody legal keep (opened_stand t s z)).formed

pub returns-clause-leases : goal.returns-clause-leases
returns-clause-leases c = λ t s e es legal z keep. (stand_behind t es s e nobody legal keep (opened_stand t s z)).leases
