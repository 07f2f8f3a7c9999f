use Rattle.std.proofs.Common.{◌≡◌, ◌+◌, ◌*◌, drop}
use Rattle.kc_model.specs.Pen.{SheetOwes, sheet}
use Rattle.kc_script.specs.Canonical.{parts_lines, text_of_lines}
use Rattle.kc_script_bundle.specs.Script.{names_of}
use Rattle.kc_term.specs.Tree.{trees, tree_size, trees_size}
use Rattle.kc_script_printing.proofs.printing.+put.Given as goal

abbrev pub invariant-put_parts-loop-part : goal.invariant-put_parts-loop-part
invariant-put_parts-loop-part g l = record {
  same_sink : l.pen.sink.ghost_name ≡ l.fn.pen.sink.ghost_name;
  owes : SheetOwes g.K.Sink.written g.K.Sink.faults g.K.Sink.write_gives (sheet l.fn.pen) (sheet l.pen) (text_of_lines (parts_lines (names_of l.objects) (trees (drop l.part-index l.parts)))) (text_of_lines (parts_lines (names_of l.objects) (trees l.parts)));
}

abbrev pub decreases-put_block : goal.decreases-put_block
decreases-put_block g l = 3 * tree_size l.block.now

abbrev pub decreases-put_alternatives : goal.decreases-put_alternatives
decreases-put_alternatives g l = 3 * (tree_size l.a.now + tree_size l.b.now) + 1

abbrev pub decreases-put_parts : goal.decreases-put_parts
decreases-put_parts g l = 3 * trees_size (trees l.parts.now)

abbrev pub decreases-put_part : goal.decreases-put_part
decreases-put_part g l = 3 * tree_size l.part.now + 2

abbrev pub decreases-put_whole_block : goal.decreases-put_whole_block
decreases-put_whole_block g l = 3 * tree_size l.block.now + 1
