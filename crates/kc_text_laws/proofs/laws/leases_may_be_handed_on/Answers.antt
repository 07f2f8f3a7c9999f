use Rattle.kc_text_laws.proofs.Handed.{ends_behind, none_open, open_behind, opened_none, operations_keep}
use Rattle.kc_text_laws.proofs.laws.leases_may_be_handed_on.Goals as goal

pub returns-clause-formed : goal.returns-clause-formed
returns-clause-formed c = λ t s e es legal z keep. (open_behind t es s e (λ j. 0) legal keep (opened_none t s z)).formed

pub returns-clause-leases : goal.returns-clause-leases
returns-clause-leases c = λ t s e es j legal z keep text. (open_behind t es s e (λ j. 0) legal keep (opened_none t s z)).leases j text

pub returns-clause-ends : goal.returns-clause-ends
returns-clause-ends c = λ t s e before behind x j legal z keep text ends. ends_behind t before behind x s e (λ j. 0) j text legal keep (opened_none t s z) ends

pub returns-clause-buried : goal.returns-clause-buried
returns-clause-buried c = none_open

pub returns-clause-kept : goal.returns-clause-kept
returns-clause-kept c = λ t s e es legal all. operations_keep t es s e legal all
