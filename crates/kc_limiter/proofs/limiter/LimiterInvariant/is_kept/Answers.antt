use Rattle.kc_limiter.proofs.limiter.LimiterInvariant.is_kept.Goals as goal

pub returns : goal.returns
returns c = λ p goes n m ks a has e. (goes n m ks a has e).0
