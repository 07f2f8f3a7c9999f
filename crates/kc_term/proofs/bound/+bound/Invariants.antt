use Rattle.std.proofs.Common.{◌≡◌, drop, max}
use Rattle.kc_term.specs.Meaning.{greatest_end}
use Rattle.kc_term.specs.Tree.{trees, all_operations, tree_size, trees_size}
use Rattle.kc_term.proofs.bound.+bound.Given as goal

abbrev pub invariant-parts_bound-loop-part : goal.invariant-parts_bound-loop-part
invariant-parts_bound-loop-part g l = max l.most (greatest_end g.O.Transact.end (all_operations (trees (drop l.part-index l.parts)))) ≡ greatest_end g.O.Transact.end (all_operations (trees l.parts))

abbrev pub decreases-term_bound : goal.decreases-term_bound
decreases-term_bound g l = tree_size l.term.now

abbrev pub decreases-parts_bound : goal.decreases-parts_bound
decreases-parts_bound g l = trees_size (trees l.parts.now)
