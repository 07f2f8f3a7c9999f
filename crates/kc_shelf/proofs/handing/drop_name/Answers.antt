use Rattle.std.proofs.Common.{◌∙◌}
use Rattle.kc_shelf.proofs.handing.drop_name.Goals as goal

pub returns-in-Some-clause-drops : goal.returns-in-Some-clause-drops
returns-in-Some-clause-drops g c = (c.in-Some.ensures, (c.emptied-slot.ensures.store, c.emptied-slot.ensures.shelf ∙ c.shelf.ensures, c.emptied-slot.ensures.ticket), rw c.in-Done-Empty-default.reply-is at c.in-Done-Empty-default.ensures.came)

pub returns-in-None-clause-drops : goal.returns-in-None-clause-drops
returns-in-None-clause-drops g c = ((c.emptied-slot.ensures.store, c.emptied-slot.ensures.shelf ∙ c.shelf.ensures, c.emptied-slot.ensures.ticket), rw c.in-Done-Empty-default.reply-is at c.in-Done-Empty-default.ensures.came)
