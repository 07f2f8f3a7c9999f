use Rattle.kc_limiter.proofs.Giving.{permits, permits_waiting}
use Rattle.kc_limiter.proofs.running.ask.Goals as goal

pub commit_kept-said-requires-clause-one : goal.commit_kept-said-requires-clause-one
commit_kept-said-requires-clause-one g c = rw c.permit-now.ensures (permits c.args.limiter.now c.requires.limiter.0 c.args.client c.requires.client)

pub commit_kept-requires-clause-one : goal.commit_kept-requires-clause-one
commit_kept-requires-clause-one g c = rw c.permit_waiting-later.ensures (permits_waiting c.args.limiter.now c.requires.limiter.0 c.args.client c.requires.client)

pub returns : goal.returns
returns g c = c.serving_adds_up.ensures.then _ _ _ c.commit_kept-said.ensures.serves c.commit_kept.ensures.serves
