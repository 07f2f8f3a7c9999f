use Rattle.kc_model.specs.declared.reply.Reply.TheVariants as reply
use Rattle.kc_store.proofs.Remembering.{remembers_on}
use Rattle.kc_text.proofs.Committed.{done_says, lease_replies}
use Rattle.kc_text.specs.declared.operation.TextAct.TheVariants as act
use Rattle.kc_text.proofs.reading.read_text.Goals as goal

pub read-result-requires-clause-number : goal.read-result-requires-clause-number
read-result-requires-clause-number g c =
    let says = done_says c.args.texts.now (act.Lease c.args.place) c.args.caller.now c.commit_act.new.caller (reply.Value c.in-Value.number) c.in-Ok.footprint (rw c.in-Value.is at c.in-Ok.ensures.done) in
    let text = says.1.1 in
    rw c.requires.pool text

pub give_back-requires-clause-number : goal.give_back-requires-clause-number
give_back-requires-clause-number g c =
    let says = done_says c.args.texts.now (act.Lease c.args.place) c.args.caller.now c.commit_act.new.caller (reply.Value c.in-Value.number) c.in-Ok.footprint (rw c.in-Value.is at c.in-Ok.ensures.done) in
    says.1.1

pub unreachable-requires : goal.unreachable-requires
unreachable-requires g c =
    lease_replies c.args.texts.now c.args.place c.args.caller.now c.commit_act.new.caller c.in-Ok.reply c.in-Ok.footprint c.in-Ok.ensures.done c.in_default.not-Value c.in_default.not-Empty c.in_default.not-Full

pub returns-in-Value-clause-remembers : goal.returns-in-Value-clause-remembers
returns-in-Value-clause-remembers g c = remembers_on c.args.caller.now c.commit_act.new.caller c.give_back.new.caller c.commit_act.ensures.remembers c.give_back.ensures.remembers
