use Rattle.std.proofs.Common.{Ok, sym, ap, ◌∙◌, arith}
use Rattle.kc_grow.specs.declared.grow.Grow.{Grow}
use Rattle.kc_model.specs.declared.footprint.Loc.{Loc}
use Rattle.kc_script_bundle.specs.declared.object.Object.TheVariants as object
use Rattle.kc_script_verbs.proofs.Placing.{few_is, many_is, grow_is}
use Rattle.kc_script_verbs.specs.Declaring.{grow_at}
use Rattle.kc_script_verbs.proofs.declaring.grow_at.Goals as goal

pub returns-then-at-cap-gt-END-clause-gives : goal.returns-then-at-cap-gt-END-clause-gives
unfolding grow_at
returns-then-at-cap-gt-END-clause-gives c = sym (few_is _ _ _ _ (omega arith) ∙ many_is _ _ _ _ (omega arith))

pub returns-clause-gives : goal.returns-clause-gives
unfolding grow_at
returns-clause-gives c = sym (few_is _ _ _ _ (omega arith) ∙ few_is _ _ _ _ (omega arith) ∙ ap (λ (x : Grow). Ok (object.Grow x)) (grow_is c.layout.result c.args.at.0 c.args.cap (omega arith) (omega arith) (ap (λ (l : Loc). l.0) c.layout.ensures.base) c.layout.ensures.cap))
