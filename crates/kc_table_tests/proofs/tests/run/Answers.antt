use Rattle.kc_machine_steps.specs.declared.task.Task.TheVariants as task
use Rattle.kc_table_tests.proofs.Trying.{commit_known, commit_made}
use Rattle.kc_table_laws.proofs.Running.{ran_same}
use Rattle.kc_table_tests.proofs.tests.run.Goals as goal

pub commit-requires-clause-made : goal.commit-requires-clause-made
commit-requires-clause-made c =
    commit_made c.args.seat.now c.args.reads.now c.footprint-footprint.result c.footprint-footprint.ensures.among c.requires.reads c.args.mode (c.is_well_made.ensures.0 c.if-not-is_well_made.false) c.footprint-footprint.ensures.few

pub commit-requires-clause-known : goal.commit-requires-clause-known
commit-requires-clause-known c = commit_known c.args.seat.now c.args.reads.now c.footprint-footprint.result c.footprint-footprint.ensures.among c.requires.reads c.args.mode

pub returns : goal.returns
returns c = record { same = ran_same c.args.seat.now c.commit.new.seat (task.Commit c.footprint-footprint.result c.args.mode) c.commit.ensures.ran }
