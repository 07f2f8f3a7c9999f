use Rattle.std.proofs.Common.{arith}
use Rattle.kc_check.proofs.Spaces.{space_next}
use Rattle.kc_check.proofs.opening.spaces.Goals as goal

pub loop-i-preserved : goal.loop-i-preserved
loop-i-preserved c =
    let v = c.index-threads-i.result in
    let ok = v.ok.0 in
    let long = c.len.ensures in
    let room = c.in_ok-starts.ensures.capacity in
    space_next c.args.threads.now c.loop-i.i c.len.result v c.in_ok-starts.starts c.loop-i.all.items c.push.new.self.items c.loop-i-test.true c.index-threads-i.is (omega (arith, long, ok)) c.loop-i.invariant c.in_ok-starts.ensures.items (omega (arith, room)) c.in_ok-push.ensures.items
