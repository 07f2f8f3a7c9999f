use Rattle.kc_script_bundle.proofs.Alive.{end_takes_one, end_leaves_flags}
use Rattle.kc_script_bundle.proofs.laws.ends_take_one_away.Goals as goal

pub returns-clause-live : goal.returns-clause-live
returns-clause-live c = λ n m ks fits some ended. end_takes_one n m ks fits some ended

pub returns-clause-flags : goal.returns-clause-flags
returns-clause-flags c = λ n m ks thread fits some ended is. end_leaves_flags n m ks fits some ended thread is
