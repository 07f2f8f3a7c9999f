use Rattle.std.proofs.Common.{ap, arith, length, sym}
use Rattle.kc_locked.proofs.Ends.{deals, dealt_is, share_fits}
use Rattle.kc_locked.proofs.Enters.{pass_is}
use Rattle.kc_locked.specs.Locked.{own_first}
use Rattle.kc_locked.proofs.store.deal.Goals as goal

pub split_seat-token-requires : goal.split_seat-token-requires
split_seat-token-requires c = let t = c.requires.table.1 in (c.loop-i.invariant.table, omega arith, deals _ _ _)

pub invariant_of-push_reserved : goal.invariant_of-push_reserved
invariant_of-push_reserved c =
    let is = dealt_is _ _ _ c.args.shares.now c.loop-i.invariant.me c.split_seat-token.ensures.4 c.loop-i-test.true in
    let none = ap (λ m. own_first m.0.parts) is in
    let fits = share_fits c.args.shares.now c.loop-i.i c.loop-i-test.true c.requires.most in
    (pass_is _ _ _ _ is, sym (ap (λ l. length l) none), omega arith)

pub push_reserved-requires : goal.push_reserved-requires
push_reserved-requires c =
    let room = c.loop-i.invariant.room in
    let count = c.loop-i.invariant.count in
    let more = c.loop-i-test.true in omega arith
