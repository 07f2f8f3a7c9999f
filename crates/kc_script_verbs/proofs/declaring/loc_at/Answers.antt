use Rattle.std.proofs.Common.{sym, arith}
use Rattle.kc_script_verbs.proofs.Placing.{few_is, many_is}
use Rattle.kc_script_verbs.specs.Declaring.{loc_at}
use Rattle.kc_script_verbs.proofs.declaring.loc_at.Goals as goal

pub returns-then-at-gt-END-clause-gives : goal.returns-then-at-gt-END-clause-gives
unfolding loc_at
returns-then-at-gt-END-clause-gives c = sym (many_is _ _ _ _ (omega arith))

pub returns-clause-gives : goal.returns-clause-gives
unfolding loc_at
returns-clause-gives c = sym (few_is _ _ _ _ (omega arith))
