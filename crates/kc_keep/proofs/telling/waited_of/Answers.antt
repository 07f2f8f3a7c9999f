use Rattle.kc_keep.proofs.Told.{in_time, told_at_last, waited}
use Rattle.kc_keep.proofs.telling.waited_of.Goals as goal

pub returns-clause-told : goal.returns-clause-told
returns-clause-told g c = told_at_last (g.I.Invariant.is_one c.args.invariant.now)

pub returns-clause-waits : goal.returns-clause-waits
returns-clause-waits g c = waited (g.I.Invariant.is_one c.args.invariant.now)

pub returns-clause-in_time : goal.returns-clause-in_time
returns-clause-in_time g c = in_time (g.I.Invariant.is_one c.args.invariant.now)
