use Rattle.kc_shelf.proofs.ShelfLaw.{shelf_law}
use Rattle.kc_shelf.proofs.operation.ShelfOpTransact.run.Goals as goal

pub returns-in-Reserve-clause-law : goal.returns-in-Reserve-clause-law
returns-in-Reserve-clause-law g c = shelf_law _ c.args.self.now _ c.requires.fit (rw c.in-Reserve.is c.reserve.ensures.goes)

pub returns-in-Name-clause-law : goal.returns-in-Name-clause-law
returns-in-Name-clause-law g c = shelf_law _ c.args.self.now _ c.requires.fit (rw c.in-Name.is c.name.ensures.goes)

pub returns-in-NameAt-clause-law : goal.returns-in-NameAt-clause-law
returns-in-NameAt-clause-law g c = shelf_law _ c.args.self.now _ c.requires.fit (rw c.in-NameAt.is c.name_at.ensures.goes)

pub returns-in-Drop-clause-law : goal.returns-in-Drop-clause-law
returns-in-Drop-clause-law g c = shelf_law _ c.args.self.now _ c.requires.fit (rw c.in-Drop.is c.drop_name.ensures.goes)

pub returns-in-Free-clause-law : goal.returns-in-Free-clause-law
returns-in-Free-clause-law g c = shelf_law _ c.args.self.now _ c.requires.fit (rw c.in-Free.is c.free.ensures.goes)

pub returns-in-Renew-clause-law : goal.returns-in-Renew-clause-law
returns-in-Renew-clause-law g c = shelf_law _ c.args.self.now _ c.requires.fit (rw c.in-Renew.is c.renew.ensures.goes)
