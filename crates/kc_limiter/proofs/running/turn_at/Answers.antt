use Rattle.kc_limiter.proofs.Giving.{turns}
use Rattle.kc_limiter.proofs.running.turn_at.Goals as goal

pub commit_kept-requires-clause-one : goal.commit_kept-requires-clause-one
commit_kept-requires-clause-one g c = rw c.turn-turn.ensures (turns c.args.limiter.now c.requires.limiter.0)
