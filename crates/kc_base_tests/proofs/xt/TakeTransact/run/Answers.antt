use Rattle.std.proofs.Common.{◌==◌, ◌+◌, arith}
use Rattle.kc_xt.proofs.Stay.{stays_if, stays_law}
use Rattle.kc_base_tests.specs.Worked.{takes_one}
use Rattle.kc_base_tests.proofs.xt.TakeTransact.run.Goals as goal

pub returns-clause-law : goal.returns-clause-law
returns-clause-law g c =
    let l = c.args.self.now.at in
    stays_law l (l + 1) _ (takes_one l) (omega arith, omega arith, λ v. stays_if _ _ (v == 0) _ _ tt (omega arith, omega arith, tt)) tt _ c.take_one.ensures.goes
