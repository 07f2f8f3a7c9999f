-- A term's parts are smaller than the term.
use Rattle.std.specs.Prelude.{◌≤◌, max}
use Rattle.std.proofs.Common.{arith}
use Rattle.kc_term.specs.declared.term.Node.{Node}
use Rattle.kc_term.specs.declared.term.Node.TheVariants as node
use Rattle.kc_term.specs.Shape.{tree_of}
use Rattle.kc_term.specs.Tree.{tree_size, most_le-trees_size}
use Rattle.kc_term.specs.declared.term.Term.TheDeep.{deep-Node}

pub falls : {O : Type 0} (n : Node O) → max (deep-Node O n) 0 ≤ tree_size (tree_of n)
falls (node.Op n) = omega arith
falls (node.Pair a b) = omega arith
falls (node.Seq parts) = omega (arith, most_le-trees_size parts.items)
falls (node.First a b) = omega arith
