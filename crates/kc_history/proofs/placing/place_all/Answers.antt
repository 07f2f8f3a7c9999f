use Rattle.std.proofs.Common.{◌≡◌, ◌<◌, length, slice_index, slice_set, ap, sym, arith}
use Rattle.std.proofs.Math.Path.{fun_ext}
use Rattle.kc_history.proofs.Placed.{all_records, placed_more, tested_more, ends, made_still}
use Rattle.kc_history.proofs.Totals.{unplaced_step}
use Rattle.kc_history.specs.Counts.{sum_unplaced}
use Rattle.kc_history.specs.Order.{one_record_more}
use Rattle.kc_history.specs.Tested.{untested}
use Rattle.kc_history.proofs.placing.place_all.Goals as goal

pub loop-thread-init : goal.loop-thread-init
loop-thread-init c =
    let e : (λ _. 0) ≡ slice_index c.args.next.now = fun_ext (λ u. sym (c.requires.none_stand u)) in
    record {
      chooses = (sym e, fun_ext (λ l. c.requires.no_puts l));
      counted = c.requires.counted;
      known = c.requires.tested;
      room =
          let a : sum_unplaced (λ _. 1) c.args.records.now (slice_index c.args.next.now) ≡ sum_unplaced (λ _. 1) c.args.records.now (λ _. 0) = ap (sum_unplaced (λ _. 1) c.args.records.now) (sym e) in
          let b = all_records c.args.records.now in
          omega arith;
    }

pub first_ready-requires-clause-counted : goal.first_ready-requires-clause-counted
first_ready-requires-clause-counted c = c.loop-thread.invariant.counted

pub first_ready-requires-clause-tested : goal.first_ready-requires-clause-tested
first_ready-requires-clause-tested c = c.loop-thread.invariant.known

pub bounds-order-placed : goal.bounds-order-placed
bounds-order-placed c =
    let (t, (f, passes), lowest) = c.in-Some.ensures.ready in
    let a = unplaced_step (λ _. 1) c.args.records.now (slice_index c.loop-thread.next) c.in-Some.thread f passes.is in
    let b = c.loop-thread.invariant.room in
    let d = c.loop-thread.auto.order in
    omega arith

pub let_stand-requires-clause-counted : goal.let_stand-requires-clause-counted
let_stand-requires-clause-counted c = c.loop-thread.invariant.counted

pub loop-thread-smaller : goal.loop-thread-smaller
loop-thread-smaller c =
    let (t, (f, passes), lowest) = c.in-Some.ensures.ready in
    let a = unplaced_step (λ _. 1) c.args.records.now (slice_index c.loop-thread.next) c.in-Some.thread f passes.is in
    let b : sum_unplaced (λ _. 1) c.args.records.now (slice_index c.let_stand.new.next) ≡ sum_unplaced (λ _. 1) c.args.records.now (one_record_more c.in-Some.thread (slice_index c.loop-thread.next)) = ap (sum_unplaced (λ _. 1) c.args.records.now) c.let_stand.ensures.next in
    omega arith

pub loop-thread-preserved : goal.loop-thread-preserved
loop-thread-preserved c =
    let vs = c.args.records.now in
    let t = c.in-Some.thread in
    let next = c.loop-thread.next in
    let versions = c.loop-thread.versions in
    let left = c.loop-thread.left in
    let (lt, (f, passes), lowest) = c.in-Some.ensures.ready in
    let well = made_still vs (length versions) (length c.args.versions.now) c.loop-thread.auto.versions c.requires.made in
    let counted = c.loop-thread.invariant.counted in
    let e = c.let_stand.ensures.next in
    let raise = c.let_stand.ensures.versions f passes.is in
    let counted' = c.let_stand.ensures.counted in
    let room : c.loop-thread.placed < length c.loop-thread.order = (let a = unplaced_step (λ _. 1) vs (slice_index next) t f passes.is in let b = c.loop-thread.invariant.room in let d = c.loop-thread.auto.order in omega arith) in
    let tests : t < length c.first_ready.new.tested = (let a = c.requires.tests in let b = c.loop-thread.auto.tested in let d = c.first_ready.auto.tested in omega arith) in
    let known' = tested_more vs next versions c.args.starts.now left well counted t f passes c.first_ready.new.tested c.let_stand.new.next c.let_stand.new.versions c.let_stand.new.left tests c.first_ready.ensures.tested e raise (c.let_stand.ensures.left f passes.is) counted' in
    placed_more vs next versions c.args.starts.now left well counted t f passes c.loop-thread.order c.loop-thread.placed c.loop-thread.tested (slice_set c.first_ready.new.tested t untested) c.let_stand.new.next c.let_stand.new.versions c.let_stand.new.left lowest c.loop-thread.invariant room e raise counted' known'

pub returns-clause-chooses : goal.returns-clause-chooses
returns-clause-chooses c = c.loop-thread.invariant.chooses

pub returns-clause-none : goal.returns-clause-none
returns-clause-none c =
    ends c.args.records.now c.loop-thread.next c.loop-thread.versions c.args.starts.now c.loop-thread.left (made_still c.args.records.now (length c.loop-thread.versions) (length c.args.versions.now) c.loop-thread.auto.versions c.requires.made) c.loop-thread.invariant.counted c.in_default.ensures.ready
