use Rattle.std.proofs.Common.{◌≡◌, ◌<◌, ◌+◌, ◌^◌, length, slice_index, slice_set, subst, arith, rules}
use Rattle.std.proofs.Math.Path.{fun_ext}
use Rattle.kc_history.proofs.Passing.{puts_below}
use Rattle.kc_history.proofs.Placed.{set_more, in_list, few_records, reads_fit, reads_stand, reads_counted, puts_room, next_counted, next_passes}
use Rattle.kc_history.proofs.Totals.{same_record}
use Rattle.kc_history.specs.Counts.{Forgets}
use Rattle.kc_history.specs.Order.{one_record_more, raised}
use Rattle.kc_history.specs.Records.{record_print}
use Rattle.kc_model.specs.declared.footprint.Footprint.{Footprint}
use Rattle.kc_history.proofs.placing.let_stand.Goals as goal

pub reads-requires : goal.reads-requires
reads-requires c = in_list c.args.records.now c.args.thread c.index-records-thread.result (slice_index c.args.next.now c.args.thread) c.requires.passes.0 c.requires.thread c.index-records-thread.is c.requires.passes.1.is

pub puts-requires : goal.puts-requires
puts-requires c = in_list c.args.records.now c.args.thread c.index-records-thread.result (slice_index c.args.next.now c.args.thread) c.requires.passes.0 c.requires.thread c.index-records-thread.is c.requires.passes.1.is

pub overflow_add-next : goal.overflow_add-next
overflow_add-next c =
    let a = few_records c.args.records.now c.args.thread (slice_index c.args.next.now c.args.thread) c.requires.passes.0 c.requires.passes.1.is in
    let s = c.requires.short in
    let b : slice_index c.args.next.now c.args.thread + 1 < 2 ^ 32 = omega arith in
    search rules

pub forget_reads-requires-clause-below : goal.forget_reads-requires-clause-below
forget_reads-requires-clause-below c =
    let vs = c.args.records.now in
    let t = c.args.thread in
    let next = c.args.next.now in
    let versions = c.args.versions.now in
    let left = c.args.left.now in
    let f = record_print c.index-records-thread.result.items (slice_index next t) in
    let well = c.requires.made in
    let counted = c.requires.counted in
    let passes = next_passes vs next versions c.args.starts.now left t c.index-records-thread.result c.requires.passes.0 c.requires.thread c.index-records-thread.is c.requires.passes.1 in
    rw c.reads.ensures.reads (reads_fit vs next versions c.args.starts.now left well counted t f passes)

pub forget_reads-requires-clause-stands : goal.forget_reads-requires-clause-stands
forget_reads-requires-clause-stands c =
    let vs = c.args.records.now in
    let t = c.args.thread in
    let next = c.args.next.now in
    let versions = c.args.versions.now in
    let left = c.args.left.now in
    let f = record_print c.index-records-thread.result.items (slice_index next t) in
    let well = c.requires.made in
    let counted = c.requires.counted in
    let passes = next_passes vs next versions c.args.starts.now left t c.index-records-thread.result c.requires.passes.0 c.requires.thread c.index-records-thread.is c.requires.passes.1 in
    rw c.reads.ensures.reads (reads_stand vs next versions c.args.starts.now left well counted t f passes)

pub forget_reads-requires-clause-counted : goal.forget_reads-requires-clause-counted
forget_reads-requires-clause-counted c =
    let vs = c.args.records.now in
    let t = c.args.thread in
    let next = c.args.next.now in
    let versions = c.args.versions.now in
    let left = c.args.left.now in
    let f = record_print c.index-records-thread.result.items (slice_index next t) in
    let well = c.requires.made in
    let counted = c.requires.counted in
    let passes = next_passes vs next versions c.args.starts.now left t c.index-records-thread.result c.requires.passes.0 c.requires.thread c.index-records-thread.is c.requires.passes.1 in
    rw c.reads.ensures.reads (reads_counted vs next versions c.args.starts.now left well counted t f passes)

pub raise-requires-clause-below : goal.raise-requires-clause-below
raise-requires-clause-below c =
    let vs = c.args.records.now in
    let t = c.args.thread in
    let next = c.args.next.now in
    let versions = c.args.versions.now in
    let left = c.args.left.now in
    let f = record_print c.index-records-thread.result.items (slice_index next t) in
    let well = c.requires.made in
    let counted = c.requires.counted in
    let passes = next_passes vs next versions c.args.starts.now left t c.index-records-thread.result c.requires.passes.0 c.requires.thread c.index-records-thread.is c.requires.passes.1 in
    rw c.puts.ensures.puts (puts_below (length versions) f (well t (slice_index next t) f passes.is))

pub raise-requires-clause-rise : goal.raise-requires-clause-rise
raise-requires-clause-rise c =
    let vs = c.args.records.now in
    let t = c.args.thread in
    let next = c.args.next.now in
    let versions = c.args.versions.now in
    let left = c.args.left.now in
    let f = record_print c.index-records-thread.result.items (slice_index next t) in
    let well = c.requires.made in
    let counted = c.requires.counted in
    let passes = next_passes vs next versions c.args.starts.now left t c.index-records-thread.result c.requires.passes.0 c.requires.thread c.index-records-thread.is c.requires.passes.1 in
    rw c.puts.ensures.puts (well t (slice_index next t) f passes.is).puts_rise

pub raise-requires-clause-room : goal.raise-requires-clause-room
raise-requires-clause-room c =
    let vs = c.args.records.now in
    let t = c.args.thread in
    let next = c.args.next.now in
    let versions = c.args.versions.now in
    let left = c.args.left.now in
    let f = record_print c.index-records-thread.result.items (slice_index next t) in
    let well = c.requires.made in
    let counted = c.requires.counted in
    let passes = next_passes vs next versions c.args.starts.now left t c.index-records-thread.result c.requires.passes.0 c.requires.thread c.index-records-thread.is c.requires.passes.1 in
    rw c.puts.ensures.puts (puts_room vs next versions c.args.starts.now left well counted t f passes)

pub returns-clause-next : goal.returns-clause-next
returns-clause-next c = set_more c.args.next.now c.args.thread (let a = c.requires.thread in let b = c.requires.threads in omega arith)

pub returns-clause-versions : goal.returns-clause-versions
returns-clause-versions c g is =
    let vs = c.args.records.now in
    let t = c.args.thread in
    let next = c.args.next.now in
    let versions = c.args.versions.now in
    let left = c.args.left.now in
    let f = record_print c.index-records-thread.result.items (slice_index next t) in
    let well = c.requires.made in
    let counted = c.requires.counted in
    let passes = next_passes vs next versions c.args.starts.now left t c.index-records-thread.result c.requires.passes.0 c.requires.thread c.index-records-thread.is c.requires.passes.1 in
    let same = same_record vs t (slice_index next t) f g passes.is is in
    let raise = fun_ext (rw c.puts.ensures.puts at c.raise.ensures) in
    subst (λ (f : Footprint). slice_index c.raise.new.versions ≡ raised f (slice_index versions)) same raise

pub returns-clause-left : goal.returns-clause-left
returns-clause-left c g is =
    let vs = c.args.records.now in
    let t = c.args.thread in
    let next = c.args.next.now in
    let versions = c.args.versions.now in
    let left = c.args.left.now in
    let f = record_print c.index-records-thread.result.items (slice_index next t) in
    let well = c.requires.made in
    let counted = c.requires.counted in
    let passes = next_passes vs next versions c.args.starts.now left t c.index-records-thread.result c.requires.passes.0 c.requires.thread c.index-records-thread.is c.requires.passes.1 in
    let same = same_record vs t (slice_index next t) f g passes.is is in
    subst (λ (f : Footprint). Forgets c.args.starts.now left c.forget_reads.new.left f.reads.items) same (rw c.reads.ensures.reads at c.forget_reads.ensures)

pub returns-clause-counted : goal.returns-clause-counted
returns-clause-counted c =
    let vs = c.args.records.now in
    let t = c.args.thread in
    let next = c.args.next.now in
    let versions = c.args.versions.now in
    let left = c.args.left.now in
    let f = record_print c.index-records-thread.result.items (slice_index next t) in
    let well = c.requires.made in
    let counted = c.requires.counted in
    let passes = next_passes vs next versions c.args.starts.now left t c.index-records-thread.result c.requires.passes.0 c.requires.thread c.index-records-thread.is c.requires.passes.1 in
    let e : slice_index (slice_set next t (slice_index next t + 1)) ≡ one_record_more t (slice_index next) = set_more next t (let a = c.requires.thread in let b = c.requires.threads in omega arith) in
    let raise = (rw c.puts.ensures.puts at c.raise.ensures) in
    let forget = (rw c.reads.ensures.reads at c.forget_reads.ensures) in
    next_counted vs next versions c.args.starts.now left well counted t f passes (slice_set next t (slice_index next t + 1)) c.raise.new.versions c.forget_reads.new.left e raise c.raise.auto.versions c.forget_reads.auto.left forget
