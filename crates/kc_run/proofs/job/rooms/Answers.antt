use Rattle.std.proofs.Common.{ap, ◌∙◌}
use Rattle.kc_run.proofs.Jobs.{rooms_next}
use Rattle.kc_run.specs.Jobs.{empty_records}
use Rattle.kc_run.proofs.job.rooms.Goals as goal

pub loop-i-preserved : goal.loop-i-preserved
loop-i-preserved c =
    rooms_next c.args.limit c.args.threads.now c.loop-i.i c.index-threads-i.result c.in_ok-list.list c.loop-i.all.items c.push.new.self.items c.loop-i-test.true c.index-threads-i.is c.loop-i.invariant c.in_ok-push.ensures.items
    (c.in_ok-list.ensures ∙ ap (empty_records c.args.limit) c.as_slice.ensures.value)
