use Rattle.std.proofs.Common.{◌≡◌, ◌+◌, ◌≤◌, min, max, length, drop}
use Rattle.kc_term.specs.Tree.{trees, all_operations, greatest_nesting}
use Rattle.kc_term.specs.declared.term.TheConstants.{MOST_NESTED, MOST_OPERATIONS}
use Rattle.kc_term.proofs.term.Term.seq.Given as goal

-- what was counted so far, with what is left
abbrev pub invariant-loop-part : goal.invariant-loop-part
invariant-loop-part g l = record {
  counted : min (l.operations + length (all_operations (trees (drop l.part-index l.part-items)))) (MOST_OPERATIONS + 1) ≡ min (length (all_operations (trees l.part-items))) (MOST_OPERATIONS + 1);
  nested : max l.nesting (greatest_nesting (trees (drop l.part-index l.part-items))) ≡ greatest_nesting (trees l.part-items);
  few : l.operations ≤ MOST_OPERATIONS + 1;
  shallow : l.nesting ≤ MOST_NESTED;
}
