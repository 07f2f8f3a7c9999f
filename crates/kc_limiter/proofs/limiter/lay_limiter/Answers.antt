use Rattle.kc_limiter.proofs.Giving.{opens}
use Rattle.kc_limiter.proofs.limiter.lay_limiter.Goals as goal

pub returns-clause-opens : goal.returns-clause-opens
returns-clause-opens c = record {
  at_opening = λ m as_laid.
      let stores = c.stays_under_additions.ensures.stores in
      let counts = stores _ _ m c.in_ok-granted.ensures.stays as_laid in
      let seen = stores _ _ m c.in_ok-counts.ensures.stays counts in
      let window = stores _ _ m c.in_ok-seen.ensures.stays seen in
      opens (record { window = c.in_ok-window.window; seen = c.in_ok-seen.seen; counts = c.in_ok-counts.counts; granted = c.in_ok-granted.granted }) m (c.in_ok-granted.ensures.opens.at_opening m as_laid) (c.in_ok-counts.ensures.opens.at_opening m counts) (c.in_ok-window.ensures.opens.at_opening m window);
}
