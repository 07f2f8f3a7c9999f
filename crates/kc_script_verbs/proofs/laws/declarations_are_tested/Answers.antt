use Rattle.kc_script_verbs.proofs.Tested.{declare_fault, declare_is}
use Rattle.kc_script_verbs.proofs.laws.declarations_are_tested.Goals as goal

pub returns-clause-tests : goal.returns-clause-tests
returns-clause-tests c = λ names k args. (declare_fault names k args).same

pub returns-clause-name : goal.returns-clause-name
returns-clause-name c = λ names k args entry e. (declare_is names k args entry e).0

pub returns-clause-kind : goal.returns-clause-kind
returns-clause-kind c = λ names k args entry e. (declare_is names k args entry e).1

pub returns-clause-size : goal.returns-clause-size
returns-clause-size c = λ names k args entry e. (declare_is names k args entry e).2
