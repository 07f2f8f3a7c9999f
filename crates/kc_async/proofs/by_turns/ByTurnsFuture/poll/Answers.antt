use Rattle.kc_async.proofs.Looks.{gives_by_turns}
use Rattle.kc_xt.specs.Meaning.{limited}
use Rattle.kc_async.proofs.by_turns.ByTurnsFuture.poll.Goals as goal

pub returns-in-Ends-clause-value : goal.returns-in-Ends-clause-value
returns-in-Ends-clause-value g c =
    let t = c.args.self.now.transaction in
    gives_by_turns (limited (g.T.Transact.most t) (g.T.Transact.meaning t)) (g.T.Transact.end t) c.args.self.now.callers.now c.in-Some.one (record { one = c.attempt.new.one; answered = c.in-Ends.answered; footprint = c.replace-footprint.result }) c.attempt.new.footprint c.in-Some.ensures c.replace-footprint.ensures.value c.in-Ends.ensures.came c.attempt.ensures.callers
