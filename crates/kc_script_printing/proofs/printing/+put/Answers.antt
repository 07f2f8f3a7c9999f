use Rattle.std.proofs.Common.{◌<◌, ◌≤◌, length, refl, ◌∙◌, arith}
use Rattle.std.proofs.lemmas.List.{drop_all}
use Rattle.kc_model.proofs.Pens.{puts_then, owes_all, owes_then, owes_none}
use Rattle.kc_script_printing.proofs.Texts.{texts_join, parts_next}
use Rattle.kc_script_bundle.specs.Script.{names_of}
use Rattle.kc_term.proofs.Parts.{size_at}
use Rattle.kc_script_printing.proofs.printing.+put.Goals as goal

pub put_alternatives-returns : goal.put_alternatives-returns
put_alternatives-returns g t c = rw texts_join (puts_then c.put_block.ensures (puts_then c.put.ensures c.put_block-2.ensures))

pub put_parts-loop-part-init : goal.put_parts-loop-part-init
put_parts-loop-part-init g t c = record { same_sink = refl; owes = owes_all _ _ }

pub put_parts-put_part-requires : goal.put_parts-put_part-requires
put_parts-put_part-requires g t c κs within =
    let smaller = size_at c.args.parts.now c.loop-part.part-index c.part-item.result c.loop-part-test.true c.part-item.is in
    (omega (arith, c.decreases, smaller), (within, (c.requires.lie, c.requires.sized)))

pub put_parts-loop-part-preserved : goal.put_parts-loop-part-preserved
put_parts-loop-part-preserved g t c =
    let here : c.loop-part.part-index < length c.args.parts.now = omega arith in
    record {
      same_sink = c.put_part.ensures.same_sink ∙ c.loop-part.invariant.same_sink;
      owes = owes_then c.put_part.ensures.asks (rw (parts_next (names_of c.args.objects.now) c.args.parts.now c.loop-part.part-index c.part-item.result here, ← c.part-item.is) at c.loop-part.invariant.owes);
    }

pub put_parts-returns : goal.put_parts-returns
put_parts-returns g t c =
    let past : length c.args.parts.now ≤ c.loop-part.part-index = omega arith in
    record { same_sink = c.loop-part.invariant.same_sink; asks = owes_none (rw (drop_all c.loop-part.part-index c.args.parts.now past) at c.loop-part.invariant.owes) }

pub put_whole_block-returns : goal.put_whole_block-returns
put_whole_block-returns g t c = rw texts_join (puts_then c.put.ensures (puts_then c.put_block.ensures c.put-2.ensures))
