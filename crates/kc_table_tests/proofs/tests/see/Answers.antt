use Rattle.kc_machine_steps.specs.declared.task.Task.TheVariants as task
use Rattle.kc_table_laws.proofs.Running.{ran_same}
use Rattle.kc_table_tests.proofs.tests.see.Goals as goal

pub returns : goal.returns
returns c = record { same = ran_same c.args.seat.now c.look.new.seat (task.Look c.args.loc) c.look.ensures.ran }
