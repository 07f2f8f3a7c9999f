use Rattle.kc_term.specs.declared.term.Node.{Node}
use Rattle.kc_term.specs.declared.term.Node.TheVariants as node
use Rattle.kc_term.specs.Tree.{Tree, op, pair, seq, first, trees}

abbrev pub tree_of : {O : Type 0} → Node O → Tree O
tree_of (node.Op o) = op o
tree_of (node.Pair a b) = pair a b
tree_of (node.Seq parts) = seq (trees parts.items)
tree_of (node.First a b) = first a.value b.value
