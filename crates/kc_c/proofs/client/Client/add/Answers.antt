use Rattle.std.proofs.Common.{refl, arith}
use Rattle.kc_c.proofs.Adding.{add_alone, add_done, add_stays}
use Rattle.kc_c.proofs.Loud.{tried_silently}
use Rattle.kc_c.proofs.client.Client.add.Goals as goal

pub returns-then-answer-ne-DONE-clause-tried : goal.returns-then-answer-ne-DONE-clause-tried
returns-then-answer-ne-DONE-clause-tried c h within = tried_silently _ _ _ (add_alone _ _ _ c.args.self.now.few within) _ _ _ _ _ _ _ c.in-Rests.is refl (omega arith) c.try_silently-answer.ensures (add_stays _ _ _ _ _ c.if-answer-ne-DONE.true)

pub returns-clause-tried : goal.returns-clause-tried
returns-clause-tried c h within = tried_silently _ _ _ (add_alone _ _ _ c.args.self.now.few within) _ _ _ _ _ _ _ c.in-Rests.is refl (omega arith) (rw c.if-answer-ne-DONE.false at c.try_silently-answer.ensures) (add_done _ _ _ _ _ (rw c.as_slice.ensures.value at c.first_value.ensures))
