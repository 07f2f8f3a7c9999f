use Rattle.std.proofs.Common.{◌≡◌, ℕ, List, ap, subst, sym, ◌<◌, ◌+◌, ◌-◌, All, length, arith}
use Rattle.kc_history.proofs.Opening.{all_lists, put_back, slots_of, opening_counts}
use Rattle.kc_history.proofs.Passing.{puts_below}
use Rattle.kc_history.specs.Counts.{Counted, slot}
use Rattle.kc_model.specs.declared.footprint.Put.{Put}
use Rattle.kc_model.specs.declared.footprint.Seen.{Seen}
use Rattle.kc_history.proofs.counting.count_records.Goals as goal

pub count_all_puts-requires-clause-below : goal.count_all_puts-requires-clause-below
count_all_puts-requires-clause-below c = all_lists (λ f. All (λ (p : Put). p.loc.0 < length c.make_ones.new.counts) f.puts.items) c.args.records.now
    (λ u k f is i d lt. (let a = puts_below (length c.args.starts.now - 1) f (c.requires.made u k f is) i d lt in let b = c.make_ones.auto.counts in omega arith))

pub count_all_reads-requires-clause-below : goal.count_all_reads-requires-clause-below
count_all_reads-requires-clause-below c = all_lists (λ f. All (λ (r : Seen). r.loc.0 + 1 < length c.sum_up.new.widths) f.reads.items) c.args.records.now
    (λ u k f is i d lt. (let a = (c.requires.made u k f is).below i d lt in let b = c.make_ones.auto.counts in let e = c.count_all_puts.auto.widths in let g = c.sum_up.auto.widths in omega arith))

pub count_all_reads-requires-clause-slots : goal.count_all_reads-requires-clause-slots
count_all_reads-requires-clause-slots c =
    let size = c.clear.ensures.size in
    let len = c.as_mut_slice.ensures.len in
    let same : length c.as_mut_slice.result.now ≡ length c.clear.new.counts.items = ap length c.as_mut_slice.ensures.value in
    slots_of c.sum_up.new.widths c.count_all_puts.new.widths (length c.as_mut_slice.result.now) c.sum_up.auto.widths c.sum_up.ensures (omega arith)

pub returns-clause-counted : goal.returns-clause-counted
returns-clause-counted c next versions len none zeros =
    let size = c.clear.ensures.size in
    let same : length c.as_mut_slice.result.now ≡ length c.clear.new.counts.items = ap length c.as_mut_slice.ensures.value in
    let kept = c.count_all_reads.auto.left in
    let slots = slots_of c.sum_up.new.widths c.count_all_puts.new.widths (length c.count_all_reads.new.left) c.sum_up.auto.widths c.sum_up.ensures (omega arith) in
    let o = c.clear.new.counts.ok.0 in
    let back = put_back c.count_all_reads.new.left c.clear.new.counts.items c.clear.new.counts.len (omega arith) (omega arith) in
    let counted =
    opening_counts c.args.records.now next versions c.sum_up.new.widths c.count_all_puts.new.widths c.count_all_reads.new.left len c.sum_up.auto.widths c.sum_up.ensures slots none zeros
    (λ l lt. (let a = c.count_all_puts.auto.widths in let b = c.count_all_puts.ensures.counts l (omega arith) in let d = c.make_ones.ensures.each l (omega arith) in omega arith))
    (λ l v lt vt. (let a = rw c.as_mut_slice.ensures.value at (c.count_all_reads.ensures l v lt vt) in let b = c.clear.ensures.each (slot c.sum_up.new.widths l v) in omega arith)) in
    subst (λ (left : List ℕ). Counted c.args.records.now next versions c.sum_up.new.widths left) (sym back) counted
