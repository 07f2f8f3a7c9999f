use Rattle.std.proofs.Common.{◌<◌, ◌+◌, ◌^◌, slice_index, arith, rules}
use Rattle.kc_history.proofs.Exchange.{choice_legal}
use Rattle.kc_history.proofs.Placed.{few_records}
use Rattle.kc_history.specs.Counts.{foot_at}
use Rattle.kc_history.proofs.arranging.find_order.Goals as goal

pub overflow_add-cycle-in-Some : goal.overflow_add-cycle-in-Some
overflow_add-cycle-in-Some c =
    let (lt, first) = c.in-Some.ensures in
    let a = few_records c.args.records.now c.in-Some.thread (slice_index c.place_all-placed.new.next c.in-Some.thread) first.left.0 first.left.1 in
    let r = c.requires.records in
    let s = c.requires.short in
    let b : slice_index c.place_all-placed.new.next c.in-Some.thread + 1 < 2 ^ 32 = omega arith in
    search rules

pub returns-in-Some-clause-never : goal.returns-in-Some-clause-never
returns-in-Some-clause-never c h =
    let (lt, first) = c.in-Some.ensures in
    let ends = c.place_all-placed.ensures in
    let all = choice_legal (foot_at c.args.records.now) (λ u k f e. (c.requires.made u k f e).puts_read) h.opening h.ending h.places _ (slice_index c.place_all-placed.new.next) (slice_index c.place_all-placed.new.versions) h.opens h.legal ends.chooses ends.none in
    absurd (let a = all.0 c.in-Some.thread (slice_index c.place_all-placed.new.next c.in-Some.thread) first.left.0 first.left.1 in omega arith)
