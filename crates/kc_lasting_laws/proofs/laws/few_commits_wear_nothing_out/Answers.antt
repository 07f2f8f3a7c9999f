use Rattle.kc_lasting_laws.proofs.Counting.{made_at_most}
use Rattle.kc_lasting_laws.proofs.Whole.{few_versions}
use Rattle.kc_store.specs.Views.{store_opening}
use Rattle.kc_lasting_laws.proofs.laws.few_commits_wear_nothing_out.Goals as goal

pub returns-clause-entries : goal.returns-clause-entries
returns-clause-entries c = λ z es l. made_at_most es (store_opening z) l

pub returns-clause-callers : goal.returns-clause-callers
returns-clause-callers c = few_versions
