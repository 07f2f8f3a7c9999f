use Rattle.std.proofs.Common.{arith}
use Rattle.std.specs.Prelude.{count_by}
use Rattle.kc_history.specs.Records.{lists_of}
use Rattle.kc_script_storm.proofs.Counting.{counted_next, list_le-commits, oks_le-commits}
use Rattle.kc_script_storm.specs.Summary.{is_ok_command}
use Rattle.kc_script_storm.proofs.summary.ok_commands.Goals as goal

pub ok_commands_of-count-requires : goal.ok_commands_of-count-requires
ok_commands_of-count-requires c = omega (arith, list_le-commits c.args.records.now c.loop-i.i c.index-records-i.result c.loop-i-test.true c.index-records-i.is, c.requires)

pub overflow_add-count : goal.overflow_add-count
overflow_add-count c =
    let next = counted_next (count_by is_ok_command) c.args.records.now c.loop-i.i c.loop-i.count _ c.index-records-i.result c.loop-i-test.true c.index-records-i.is c.loop-i.invariant in
    let most = oks_le-commits (lists_of c.args.records.now) in
    let is = c.ok_commands_of-count.ensures in
    omega (arith, next, most, is, c.requires)
