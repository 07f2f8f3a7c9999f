use Rattle.std.proofs.Common.{◌+◌, ◌≤◌, length, arith, subst, sym}
use Rattle.std.specs.Global.{Vec}
use Rattle.std.proofs.lemmas.List.Sums.{sum_by-le, sum_by-take-le}
use Rattle.kc_script_bundle.specs.declared.operation.Command.{Command}
use Rattle.kc_top.proofs.settling.room_for.Goals as goal

pub overflow_add-records-in-loop-i : goal.overflow_add-records-in-loop-i
overflow_add-records-in-loop-i c =
    let v = c.index-threads-i.result in
    let whole = sum_by-le (λ (w : Vec Command). length w.items + 1) 4097 c.args.threads.now (λ i d lt. let l = c.requires.commands i d lt in omega arith) in
    let part = sum_by-take-le (λ (w : Vec Command). length w.items + 1) c.args.threads.now c.loop-i.i in
    let few : length v.items ≤ 4096 = subst (λ (w : Vec Command). length w.items ≤ 4096) (sym c.index-threads-i.is) (c.requires.commands c.loop-i.i _ c.loop-i-test.true) in
    let is = c.loop-i.invariant in
    let len = c.len.ensures in
    let ok = v.ok.0 in
    let most = c.requires.threads in
    omega (arith, whole, part, few, is, len, ok, most)
