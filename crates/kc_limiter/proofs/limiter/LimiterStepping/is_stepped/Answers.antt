use Rattle.kc_limiter.proofs.Giving.{nothing_goes}
use Rattle.kc_limiter.proofs.limiter.LimiterStepping.is_stepped.Goals as goal

pub returns-clause-moves : goal.returns-clause-moves
returns-clause-moves c = λ p goes n m ks a has e. (goes n m ks a has e).1

pub returns-clause-stays : goal.returns-clause-stays
returns-clause-stays c = λ m has. (nothing_goes c.args.self.now m has).1
