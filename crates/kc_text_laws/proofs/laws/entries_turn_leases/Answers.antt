use Rattle.kc_text_laws.proofs.Turning.{turned_so}
use Rattle.kc_text_laws.proofs.laws.entries_turn_leases.Goals as goal

pub returns-clause-opens : goal.returns-clause-opens
returns-clause-opens c = λ t j b r f text fit answers. (turned_so t j text b r f fit answers).0

pub returns-clause-ends : goal.returns-clause-ends
returns-clause-ends c = λ t j b r f text fit answers. (turned_so t j text b r f fit answers).1
