use Rattle.kc_sched.specs.Sched.{stays}
use Rattle.kc_sched.proofs.sched.SchedStepping.is_stepped.Goals as goal

pub returns-clause-moves : goal.returns-clause-moves
returns-clause-moves c = λ p goes n m ks a has e. (goes n m ks a has e).1

pub returns-clause-stays : goal.returns-clause-stays
returns-clause-stays c = λ m has job lt. stays _
