use Rattle.kc_machine_steps.specs.declared.task.Task.TheVariants as task
use Rattle.kc_table_tests.proofs.Trying.{commit_known, commit_made, reads_begun}
use Rattle.kc_table_tests.proofs.tests.begin.Goals as goal

pub begin-requires-clause-made : goal.begin-requires-clause-made
begin-requires-clause-made c =
    commit_made c.args.seat.now c.args.reads.now c.footprint-footprint.result c.footprint-footprint.ensures.among c.requires.reads c.args.mode (c.is_well_made.ensures.0 c.if-not-is_well_made.false) c.footprint-footprint.ensures.few

pub begin-requires-clause-known : goal.begin-requires-clause-known
begin-requires-clause-known c = commit_known c.args.seat.now c.args.reads.now c.footprint-footprint.result c.footprint-footprint.ensures.among c.requires.reads c.args.mode

pub returns-clause-reads : goal.returns-clause-reads
returns-clause-reads c = reads_begun c.args.seat.now c.begin.new.self (task.Commit c.footprint-footprint.result c.args.mode) c.args.reads.now c.begin.ensures c.requires.reads
