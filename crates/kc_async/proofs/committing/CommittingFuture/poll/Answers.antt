use Rattle.kc_async.proofs.Looks.{gives_at_once, gives_later, while_pending}
use Rattle.kc_xt.specs.Meaning.{limited}
use Rattle.kc_async.proofs.committing.CommittingFuture.poll.Goals as goal

pub returns-in-Ends-clause-value : goal.returns-in-Ends-clause-value
returns-in-Ends-clause-value g c =
    let t = c.args.self.now.transaction in
    gives_at_once (limited (g.T.Transact.most t) (g.T.Transact.meaning t)) (g.T.Transact.end t) c.args.self.now.one c.in-Some.one (record { one = c.attempt.new.one; answered = c.in-Ends.answered; footprint = c.replace-footprint.result }) c.attempt.new.footprint c.in-Some.ensures.value c.replace-footprint.ensures.value c.in-Ends.ensures.came c.attempt.ensures.callers

pub returns-in-Again-clause-same : goal.returns-in-Again-clause-same
returns-in-Again-clause-same g c =
    let t = c.args.self.now.transaction in
    while_pending c.yield_now.result (gives_later (limited (g.T.Transact.most t) (g.T.Transact.meaning t)) (g.T.Transact.end t) c.args.self.now.one c.keep.new.at c.in-Some.one c.attempt.new.one c.in-Some.ensures.value c.keep.ensures c.in-Again.ensures.came c.attempt.ensures.callers)

pub returns-in-Waits-clause-same : goal.returns-in-Waits-clause-same
returns-in-Waits-clause-same g c =
    let t = c.args.self.now.transaction in
    while_pending c.rest.result (gives_later (limited (g.T.Transact.most t) (g.T.Transact.meaning t)) (g.T.Transact.end t) c.args.self.now.one c.keep-in-Waits.new.at c.in-Some.one c.attempt.new.one c.in-Some.ensures.value c.keep-in-Waits.ensures c.in-Waits.ensures.came c.attempt.ensures.callers)
