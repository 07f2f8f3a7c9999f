use Rattle.std.proofs.Common.{rules, arith, IfSome}
use Rattle.std.proofs.lemmas.Grind.{common_steps}
use Rattle.kc_callers.proofs.Beside.{all_zip_push}
use Rattle.kc_callers.proofs.desk.Desk.close.Goals as goal

pub loop-place-preserved : goal.loop-place-preserved
loop-place-preserved g c = record {
  all = grind (arith, common_steps);
  space = search rules;
  many = grind (arith, common_steps);
  each = rw c.push_reserved.ensures.items (all_zip_push (λ h x. IfSome x (g.X.Fits.fits h.tag)) _ _ _ _ c.loop-place.invariant.each c.into_inner.ensures);
}
