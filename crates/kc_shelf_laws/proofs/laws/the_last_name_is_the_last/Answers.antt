use Rattle.std.proofs.Common.{refl}
use Rattle.kc_model.specs.Store.{after}
use Rattle.kc_model.specs.declared.reply.Reply.TheVariants as reply
use Rattle.kc_shelf.specs.declared.operation.ShelfAct.TheVariants as act
use Rattle.kc_shelf_laws.proofs.Lives.{over_none, over_stays}
use Rattle.kc_shelf_laws.proofs.Names.{nobody_has}
use Rattle.kc_shelf_laws.proofs.Turning.{turned_so}
use Rattle.kc_xt.specs.Meaning.{values}
use Rattle.kc_shelf_laws.proofs.laws.the_last_name_is_the_last.Goals as goal

pub returns-clause-none : goal.returns-clause-none
returns-clause-none c = λ t s f v ticket answers finds. over_none t v ticket (values (after f s)) ((turned_so t (act.Drop v) reply.Empty f s ticket answers finds).ends v refl refl)

pub returns-clause-nobody : goal.returns-clause-nobody
returns-clause-nobody c = λ t places n m held v ticket are none. nobody_has t places n m held v ticket are none

pub returns-clause-over : goal.returns-clause-over
returns-clause-over c = λ t s f v ticket answers finds. (turned_so t (act.Drop v) reply.Empty f s ticket answers finds).ends v refl refl

pub returns-clause-stays : goal.returns-clause-stays
returns-clause-stays c = λ t s e es v ticket legal keep over. (let o = over_stays t v ticket es s e legal keep over in (o, over_none t v ticket (values e) o))
