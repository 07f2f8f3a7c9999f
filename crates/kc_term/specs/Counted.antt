-- What a term knows of its tree.
use Rattle.std.specs.Prelude.{◌≡◌, ℕ, ◌+◌, ◌≤◌, min, length}
use Rattle.kc_term.specs.Tree.{Tree, operations, nesting}
use Rattle.kc_term.specs.declared.term.TheConstants.{MOST_NESTED, MOST_OPERATIONS}

-- how many operations, up to one more than the most, and how deep its alternatives stand
pub record IsCounted {O : Type 0} (tree : Tree O) (number depth : ℕ) : Type 0 where
  pub counted : number ≡ min (length (operations tree)) (MOST_OPERATIONS + 1)
  pub nested : depth ≡ nesting tree
  pub shallow : depth ≤ MOST_NESTED
