-- Terms as trees of plain data.
use Rattle.std.specs.Prelude.{ℕ, ◌+◌, ◌≤◌, max, List, [], ◌∷◌, ◌++◌}
use Rattle.std.proofs.Common.{arith}
use denote.Param.Weighed.{most}

-- an operation, trees one after another, or two alternatives
mutual
  pub data Tree (O : Type 0) : Type 0 where
    op : O → Tree O
    seq : Trees O → Tree O
    first : Tree O → Tree O → Tree O

  pub data Trees (O : Type 0) : Type 0 where
    none : Trees O
    more : Tree O → Trees O → Trees O

-- from a list
abbrev pub trees : {O : Type 0} → List (Tree O) → Trees O
trees [] = none
trees (t ∷ ts) = more t (trees ts)

-- two operations, one after another
abbrev pub pair : {O : Type 0} → O → O → Tree O
pair a b = seq (more (op a) (more (op b) none))

-- the operations, in order
abbrev mutual
  pub operations : {O : Type 0} → Tree O → List O
  operations (op o) = o ∷ []
  operations (seq ts) = all_operations ts
  operations (first a b) = operations a ++ operations b

  pub all_operations : {O : Type 0} → Trees O → List O
  all_operations none = []
  all_operations (more t ts) = operations t ++ all_operations ts

-- how many alternatives stand in one another
abbrev mutual
  pub nesting : {O : Type 0} → Tree O → ℕ
  nesting (op o) = 0
  nesting (seq ts) = greatest_nesting ts
  nesting (first a b) = max (nesting a) (nesting b) + 1

  pub greatest_nesting : {O : Type 0} → Trees O → ℕ
  greatest_nesting none = 0
  greatest_nesting (more t ts) = max (nesting t) (greatest_nesting ts)

-- a number above that of each part
abbrev mutual
  pub tree_size : {O : Type 0} → Tree O → ℕ
  tree_size (op o) = 1
  tree_size (seq ts) = trees_size ts + 1
  tree_size (first a b) = tree_size a + tree_size b + 1

  pub trees_size : {O : Type 0} → Trees O → ℕ
  trees_size none = 0
  trees_size (more t ts) = tree_size t + trees_size ts + 1

pub most_le-trees_size : {O : Type 0} (ts : List (Tree O)) → most (λ t. tree_size t + 1) ts ≤ trees_size (trees ts) + 1
most_le-trees_size [] = omega arith
most_le-trees_size (t ∷ ts) = omega (arith, most_le-trees_size ts)
