use Rattle.kc_cells.proofs.WideLaw.{wide_law}
use Rattle.kc_cells.proofs.operation.WideOpTransact.run.Goals as goal

pub returns-in-Get-clause-law : goal.returns-in-Get-clause-law
returns-in-Get-clause-law g c = wide_law _ c.args.self.now _ (rw c.in-Get.is c.get.ensures.goes)

pub returns-in-Put-clause-law : goal.returns-in-Put-clause-law
returns-in-Put-clause-law g c = wide_law _ c.args.self.now _ (rw c.in-Put.is c.put.ensures.goes)

pub returns-in-Add-clause-law : goal.returns-in-Add-clause-law
returns-in-Add-clause-law g c = wide_law _ c.args.self.now _ (rw c.in-Add.is c.add.ensures.goes)

pub returns-in-Cas-clause-law : goal.returns-in-Cas-clause-law
returns-in-Cas-clause-law g c = wide_law _ c.args.self.now _ (rw c.in-Cas.is c.cas.ensures.goes)
