use Rattle.std.proofs.Common.{subst}
use Rattle.kc_model.specs.declared.reply.Reply.TheVariants as reply
use Rattle.kc_store.proofs.Remembering.{remembers_on}
use Rattle.kc_text.proofs.Committed.{commits}
use Rattle.kc_text.specs.Committing.{CommitsText}
use Rattle.kc_text.specs.declared.operation.TextAct.TheVariants as act
use Rattle.kc_text_run.proofs.Picks.{one_pick}
use Rattle.kc_text_run.proofs.picking.read_pick.Goals as goal

pub returns-then-number-pick-clause-remembers : goal.returns-then-number-pick-clause-remembers
returns-then-number-pick-clause-remembers g c = remembers_on c.args.caller.now c.commit.new.caller c.read_text.new.caller c.commit.ensures.remembers c.read_text.ensures.remembers

pub returns-then-number-pick-clause-own : goal.returns-then-number-pick-clause-own
returns-then-number-pick-clause-own g c =
    let t = c.args.texts.now in
    let p = c.args.place in
    let done = c.in-Done-Unit-default in
    let answered = commits t (act.Name p c.args.pick) c.args.caller.now c.commit.new.caller done.reply done.footprint done.ensures.so c.commit.ensures.remembers done.ensures.notes in
    let names = subst (λ a. CommitsText t (act.Name p c.args.pick) a done.footprint c.args.caller.now c.commit.new.caller) done.reply-is answered in
    let r = rw c.in-Read.is at c.read_text.ensures.reads in
    let e = c.if-number-pick.true in
    let leases = subst (λ k. CommitsText t (act.Lease p) (reply.Value k) c.in-Read.lease c.commit.new.caller r.0) e r.1.leases in
    let ends = subst (λ k. CommitsText t (act.Return k) r.2.0 c.in-Read.back r.0 c.read_text.new.caller) e r.2.1 in
    one_pick t p c.args.pick c.args.caller.now c.commit.new.caller r.0 c.read_text.new.caller done.footprint c.in-Read.lease c.in-Read.back r.2.0 names.replies names.entry leases ends
