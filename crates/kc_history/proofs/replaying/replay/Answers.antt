use Rattle.std.proofs.Common.{◌+◌, refl, sym, subst, ◌∙◌}
use Rattle.kc_history.proofs.Applied.{Comes, comes_first, comes_next, comes_last}
use Rattle.kc_history.specs.Records.{footprint_at, lists_of}
use Rattle.kc_model.specs.Store.{Store, store_of}
use Rattle.kc_history.proofs.replaying.replay.Goals as goal

pub loop-i-init : goal.loop-i-init
loop-i-init c = let (last, legal) = c.requires.legal in (comes_first _ _ _ last legal, refl)

pub apply_at-requires-clause-made : goal.apply_at-requires-clause-made
apply_at-requires-clause-made c = rw c.loop-i.invariant.1 c.requires.made

pub apply_at-requires-clause-finds : goal.apply_at-requires-clause-finds
apply_at-requires-clause-finds c =
    let n = comes_next (footprint_at (lists_of c.args.records.now)) c.args.order.now (store_of c.args.store.now) (store_of c.loop-i.store) c.loop-i.i _ c.loop-i-test.true c.loop-i.invariant.0 in
    (n.print, n.at, n.finds)

pub loop-i-preserved : goal.loop-i-preserved
loop-i-preserved c =
    let a = footprint_at (lists_of c.args.records.now) in
    let n = comes_next a c.args.order.now (store_of c.args.store.now) (store_of c.loop-i.store) c.loop-i.i _ c.loop-i-test.true c.loop-i.invariant.0 in
    (subst (λ (s : Store). Comes a c.args.order.now (store_of c.args.store.now) s (c.loop-i.i + 1)) (sym (c.apply_at.ensures.after n.print n.at)) n.on, c.apply_at.ensures.size ∙ c.loop-i.invariant.1)

pub returns-clause-legal : goal.returns-clause-legal
returns-clause-legal c = comes_last _ _ _ _ c.loop-i.i c.loop-i-test.false c.loop-i.invariant.0
