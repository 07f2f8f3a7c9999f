use Rattle.kc_locked.proofs.Sound.{sound_first}
use Rattle.kc_locked.proofs.held.Held.open.Goals as goal

pub invariant_of-result : goal.invariant_of-result
invariant_of-result c = rw (c.in_ok-store.ensures.ok, c.in_ok-history.ensures) (sound_first c.args.values.now c.args.spare c.requires)
