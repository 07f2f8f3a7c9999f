use Rattle.std.proofs.Common.{rules}
use Rattle.kc_run.proofs.Dealt.{shares_more}
use Rattle.kc_run.proofs.shares.shares.Goals as goal

pub loop-i-preserved : goal.loop-i-preserved
loop-i-preserved c = shares_more c.args.threads.now c.loop-i.i _ c.index-threads-i.result c.loop-i.shares.items c.push.new.self.items c.loop-i-test.true c.index-threads-i.is (search rules) c.loop-i.invariant c.in_ok-push.ensures.items
