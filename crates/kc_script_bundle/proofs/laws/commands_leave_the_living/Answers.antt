use Rattle.kc_script_bundle.proofs.Alive.{command_keeps_live, thread_keeps_live}
use Rattle.kc_script_bundle.proofs.laws.commands_leave_the_living.Goals as goal

pub returns-clause-command : goal.returns-clause-command
returns-clause-command c = λ names k n m ks lie on. command_keeps_live names lie k on n m ks

pub returns-clause-thread : goal.returns-clause-thread
returns-clause-thread c = λ names thread k n m ks lie is on. thread_keeps_live names lie thread k is on n m ks
