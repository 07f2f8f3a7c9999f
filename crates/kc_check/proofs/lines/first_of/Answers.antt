use Rattle.std.proofs.Common.{subst}
use Rattle.std.proofs.lemmas.List.{take_all}
use Rattle.kc_check.proofs.Ends.{lacks_on}
use Rattle.kc_check.specs.Laid.{ByteIsMissing}
use Rattle.kc_check.proofs.lines.first_of.Goals as goal

pub loop-i-preserved : goal.loop-i-preserved
loop-i-preserved c = lacks_on c.args.wanted c.args.bytes.now c.loop-i.i 0 c.loop-i-test.true c.loop-i.invariant c.if-bytes-i.false

pub returns-clause-none : goal.returns-clause-none
returns-clause-none c = subst (ByteIsMissing c.args.wanted) (take_all c.loop-i.i c.args.bytes.now c.loop-i-test.false) c.loop-i.invariant
