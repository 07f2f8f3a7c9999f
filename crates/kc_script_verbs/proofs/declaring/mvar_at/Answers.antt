use Rattle.std.proofs.Common.{Ok, sym, ap, ◌∙◌, arith}
use Rattle.kc_cells.specs.declared.mvar.Mvar.{Mvar}
use Rattle.kc_model.specs.declared.footprint.Loc.{Loc}
use Rattle.kc_script_bundle.specs.declared.object.Object.TheVariants as object
use Rattle.kc_script_verbs.proofs.Placing.{few_is, many_is, mvar_is}
use Rattle.kc_script_verbs.specs.Declaring.{mvar_at}
use Rattle.kc_script_verbs.proofs.declaring.mvar_at.Goals as goal

pub returns-then-at-gt-END-clause-gives : goal.returns-then-at-gt-END-clause-gives
unfolding mvar_at
returns-then-at-gt-END-clause-gives c = sym (many_is _ _ _ _ (omega arith))

pub returns-clause-gives : goal.returns-clause-gives
unfolding mvar_at
returns-clause-gives c = sym (few_is _ _ _ _ (omega arith) ∙ ap (λ (x : Mvar). Ok (object.Mvar x)) (mvar_is c.layout.result c.args.at.0 (omega arith) (ap (λ (l : Loc). l.0) c.layout.ensures)))
