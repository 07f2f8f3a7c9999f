use Rattle.std.proofs.Common.{subst}
use Rattle.kc_shelf.specs.Handing.{ActCame}
use Rattle.kc_shelf.specs.declared.shelf.Shelf.{Shelf}
use Rattle.kc_shelf.proofs.handing.commit_on.Goals as goal

pub returns-clause-came : goal.returns-clause-came
returns-clause-came g c = subst (λ (t : Shelf). ActCame t c.args.act c.commit_act.result c.args.caller.now c.commit_act.new.caller) c.shelf.ensures c.commit_act.ensures.came
