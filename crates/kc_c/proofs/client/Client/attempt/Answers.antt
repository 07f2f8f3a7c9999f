use Rattle.std.proofs.Common.{refl, ap, arith}
use Rattle.kc_c.proofs.Loud.{tried_silently}
use Rattle.kc_c.specs.Standings.{rests}
use Rattle.kc_c.proofs.client.Client.attempt.Goals as goal

pub returns-in-FetchAdd-clause-tried : goal.returns-in-FetchAdd-clause-tried
returns-in-FetchAdd-clause-tried c h may = tried_silently _ _ _ c.in-Some.ensures _ _ _ _ _ _ _ c.in-Rests.is refl may.1 (rw c.in-FetchAdd.is c.try_alone.ensures.tried) (rw c.in-FetchAdd.is c.try_alone.ensures.told)

pub returns-in_default-operation : goal.returns-in_default-operation
returns-in_default-operation c = record {
  not_now = λ e. absurd (let r = ap rests c.in-Rests.is in let b = e in cc);
  bad_ops = λ r no. absurd (no (c.in-Some.ensures.are, omega (arith, c.if-ops-replies.false)));
  tried = λ h may. tried_silently _ _ _ c.in-Some.ensures _ _ _ _ _ _ _ c.in-Rests.is refl may.1 c.try_other.ensures.tried c.try_other.ensures.told;
}
