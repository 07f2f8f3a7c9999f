use Rattle.std.proofs.Common.{◌∙◌}
use Rattle.kc_table_tests.proofs.Trying.{reads_step}
use Rattle.kc_table_tests.proofs.tests.steps_of.Goals as goal

pub loop-made-preserved : goal.loop-made-preserved
loop-made-preserved c =
    let s = c.step.ensures.stepped in
    let i = c.loop-made.invariant in
    record { table = s.of ∙ i.table; same = (s.of ∙ i.same.0, s.number ∙ i.same.1); reads = reads_step c.loop-made.seat c.step.new.seat c.args.reads.now s i.reads }
