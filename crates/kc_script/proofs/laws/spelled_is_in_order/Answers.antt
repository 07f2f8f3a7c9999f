use Rattle.kc_script.proofs.Spelled.{spelled_lies, spelled_sized, spelled_threads_few, spelled_threads}
use Rattle.kc_script.proofs.laws.spelled_is_in_order.Goals as goal

pub returns-clause-lies : goal.returns-clause-lies
returns-clause-lies c = λ bytes s p. spelled_lies p

pub returns-clause-sized : goal.returns-clause-sized
returns-clause-sized c = λ bytes s p. spelled_sized p

pub returns-clause-few : goal.returns-clause-few
returns-clause-few c = λ bytes s p. spelled_threads_few p

pub returns-clause-threads : goal.returns-clause-threads
returns-clause-threads c = λ bytes s p. spelled_threads p
