use Rattle.std.proofs.Common.{◌-◌, ◌++◌, ap, arith, length, ◌∙◌}
use Rattle.kc_history.proofs.Added.{added}
use Rattle.kc_history.specs.declared.prints.Span.{Span}
use Rattle.kc_history.proofs.prints.Prints.add.Goals as goal

pub returns : goal.returns
returns c =
    let reads = c.add_reads.ensures.items ∙ ap (λ z. c.self.inside.reads.items ++ z) c.as_slice.ensures.value in
    let puts = c.add_puts.ensures.items ∙ ap (λ z. c.self.inside.puts.items ++ z) c.as_slice-2.ensures.value in
    let h : Span = record { reads_from = c.len-reads_from.result; reads_to = c.len.result; puts_from = c.len-puts_from.result; puts_to = c.len-2.result } in
    let many_reads = ap length c.as_slice.ensures.value in
    let many_puts = ap length c.as_slice-2.ensures.value in
    let a = c.len-reads_from.ensures in
    let b = c.len-puts_from.ensures in
    let d = c.len.ensures in
    let e = c.len-2.ensures in
    let f = c.add_reads.ensures.len in
    let k = c.add_puts.ensures.len in
    rw (c.push_reserved.ensures.items, reads, puts, ← c.self.view_is)
    (λ i. record {
      prints = added c.self.inside.reads.items c.args.footprint.now.reads.items c.self.inside.puts.items c.args.footprint.now.puts.items c.self.inside.spans.items h c.self.invariant.0 (omega arith) (omega arith) (omega arith) (omega arith) i;
      spare = c.self.inside.spare - 1;
      limit = c.self.inside.limit;
    })
