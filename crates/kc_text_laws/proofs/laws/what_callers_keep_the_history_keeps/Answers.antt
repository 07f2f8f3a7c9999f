use Rattle.kc_text_laws.proofs.Owning.{front_keeps, together}
use Rattle.kc_text_laws.proofs.Stores.{of_store}
use Rattle.kc_text_laws.specs.Holding.{nobody}
use Rattle.kc_text_laws.proofs.laws.what_callers_keep_the_history_keeps.Goals as goal

pub returns-clause-all : goal.returns-clause-all
returns-clause-all c = λ t s e es legal keep. together t es s e nobody legal keep

pub returns-clause-front : goal.returns-clause-front
returns-clause-front c = λ t s before behind keep. front_keeps t before behind s nobody keep

pub returns-clause-store : goal.returns-clause-store
returns-clause-store c = of_store
