use Rattle.kc_shelf_laws.proofs.Turning.{keeps_lives, own_names, spares_lives, turned_so}
use Rattle.kc_shelf_laws.proofs.laws.entries_turn_names.Goals as goal

pub returns-clause-turns : goal.returns-clause-turns
returns-clause-turns c = λ t a r f s fit answers finds. turned_so t a r f s fit answers finds

pub returns-clause-keeps : goal.returns-clause-keeps
returns-clause-keeps c = λ t a r f fit answers. keeps_lives t a r f fit answers

pub returns-clause-own : goal.returns-clause-own
returns-clause-own c = λ t a r f s v fit answers finds ticket. own_names t a r f fit answers s finds v ticket

pub returns-clause-others : goal.returns-clause-others
returns-clause-others c = spares_lives
