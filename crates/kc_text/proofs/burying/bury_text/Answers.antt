use Rattle.std.proofs.Common.{subst}
use Rattle.kc_model.specs.declared.reply.Reply.TheVariants as reply
use Rattle.kc_text.proofs.Committed.{bury_replies, done_says}
use Rattle.kc_text.specs.Committing.{CommitsText}
use Rattle.kc_text.specs.declared.operation.TextAct.TheVariants as act
use Rattle.kc_text.proofs.burying.bury_text.Goals as goal

pub unreachable-requires : goal.unreachable-requires
unreachable-requires g c =
    bury_replies c.args.texts.now c.args.number c.args.caller.now c.commit_act.new.caller c.in-Ok.reply c.in-Ok.footprint c.in-Ok.ensures.done c.in_default.not-Unit c.in_default.not-Bool

pub returns-in-Bool-clause-buries : goal.returns-in-Bool-clause-buries
returns-in-Bool-clause-buries g c =
    let done = rw c.in-Bool.is at c.in-Ok.ensures.done in
    let says = done_says c.args.texts.now (act.Bury c.args.number) c.args.caller.now c.commit_act.new.caller (reply.Bool c.in-Bool.field-0) c.in-Ok.footprint done in
    subst (λ b. CommitsText c.args.texts.now (act.Bury c.args.number) (reply.Bool b) c.in-Ok.footprint c.args.caller.now c.commit_act.new.caller) says.1.0 done
