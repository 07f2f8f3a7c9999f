use Rattle.kc_shelf_laws.proofs.Names.{front_keeps, keep_lives, together}
use Rattle.kc_shelf_laws.proofs.Stores.{of_store}
use Rattle.kc_shelf_laws.specs.Names.{empty_hands}
use Rattle.kc_shelf_laws.proofs.laws.callers_keep_the_names.Goals as goal

pub returns-clause-all : goal.returns-clause-all
returns-clause-all c = λ t places es keep. together t places es empty_hands keep

pub returns-clause-front : goal.returns-clause-front
returns-clause-front c = λ t places before behind keep. front_keeps t places before behind empty_hands keep

pub returns-clause-store : goal.returns-clause-store
returns-clause-store c = of_store

pub returns-clause-lives : goal.returns-clause-lives
returns-clause-lives c = λ t places es keep. keep_lives t places es empty_hands keep
