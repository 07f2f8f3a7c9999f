use Rattle.std.proofs.Common.{Ok, sym, ap, ◌∙◌, arith}
use Rattle.kc_cells.specs.declared.promise.Promise.{Promise}
use Rattle.kc_model.specs.declared.footprint.Loc.{Loc}
use Rattle.kc_script_bundle.specs.declared.object.Object.TheVariants as object
use Rattle.kc_script_verbs.proofs.Placing.{few_is, many_is, promise_is}
use Rattle.kc_script_verbs.specs.Declaring.{promise_at}
use Rattle.kc_script_verbs.proofs.declaring.promise_at.Goals as goal

pub returns-then-at-gt-END-clause-gives : goal.returns-then-at-gt-END-clause-gives
unfolding promise_at
returns-then-at-gt-END-clause-gives c = sym (many_is _ _ _ _ (omega arith))

pub returns-clause-gives : goal.returns-clause-gives
unfolding promise_at
returns-clause-gives c = sym (few_is _ _ _ _ (omega arith) ∙ ap (λ (x : Promise). Ok (object.Promise x)) (promise_is c.layout.result c.args.at.0 (omega arith) (ap (λ (l : Loc). l.0) c.layout.ensures)))
