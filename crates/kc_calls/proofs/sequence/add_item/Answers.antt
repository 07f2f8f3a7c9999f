use Rattle.std.proofs.Common.{sym, ◌∙◌, append-nil}
use Rattle.kc_calls.proofs.Feeding.{none_pushed, one_pushed}
use Rattle.kc_term.specs.Meaning.{items_of}
use Rattle.kc_calls.proofs.sequence.add_item.Goals as goal

pub returns-in-Some : goal.returns-in-Some
returns-in-Some c = rw (one_pushed (items_of c.args.reply.now) c.in-Some.item c.requires.one (sym c.item_at.ensures ∙ c.in-Some.is)) c.push.ensures

pub returns-in-None : goal.returns-in-None
returns-in-None c = rw (none_pushed (items_of c.args.reply.now) (sym c.item_at.ensures ∙ c.in-None.is)) (sym (append-nil c.args.items.now))
