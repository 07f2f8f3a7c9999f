use Rattle.std.proofs.Common.{arith, inl}
use Rattle.kc_sums.proofs.Ones.{is_transfer}
use Rattle.kc_sums.proofs.running.transfer_all.Goals as goal

pub commit_kept-requires-clause-fit : goal.commit_kept-requires-clause-fit
commit_kept-requires-clause-fit g c =
    let a = c.requires.from in
    let b = c.requires.to in
    let most = c.requires.bank.most in
    rw c.transfer.ensures (omega (arith, a, most), (omega (arith, a, most), omega (arith, b, most)))

pub commit_kept-requires-clause-one : goal.commit_kept-requires-clause-one
commit_kept-requires-clause-one g c = inl (is_transfer c.args.bank.now c.transfer.result c.args.from c.args.to 7 c.transfer.ensures c.requires.from c.requires.to (omega arith) (omega arith))

pub loop-preserved : goal.loop-preserved
loop-preserved g c = c.serving_adds_up.ensures.then _ _ _ c.loop.invariant c.commit_kept.ensures.serves
