use Rattle.kc_lasting_laws.proofs.Losing.{makes_few}
use Rattle.kc_lasting_laws.proofs.Trying.{learns_none}
use Rattle.kc_lasting_laws.proofs.lives.tries_begin_few_commits.Goals as goal

pub returns-clause-begins : goal.returns-clause-begins
returns-clause-begins c = λ v n l w made. (makes_few v n l w made).begins

pub returns-clause-lost : goal.returns-clause-lost
returns-clause-lost c = λ v n l w made. (makes_few v n l w made).lost

pub returns-clause-learns : goal.returns-clause-learns
returns-clause-learns c = λ v w learns keeps. record { keeps = keeps; none = learns_none v w learns }
