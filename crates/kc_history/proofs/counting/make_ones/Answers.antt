use Rattle.std.proofs.Common.{arith}
use Rattle.kc_history.proofs.Opening.{ones_sum}
use Rattle.kc_history.proofs.counting.make_ones.Goals as goal

pub returns-clause-sum : goal.returns-clause-sum
returns-clause-sum c = ones_sum c.loop-count.counts (λ k lt. c.loop-count.invariant k (let a = c.loop-count-test.false in let b = c.loop-count.auto.counts in omega arith))
