-- Operations as the parts of a term.
use Rattle.std.specs.Prelude.{List, [], ◌∷◌}
use Rattle.kc_term.specs.Tree.{Tree, op}

-- a term of one operation for each
abbrev pub row_of : {O : Type 0} → List O → List (Tree O)
row_of [] = []
row_of (o ∷ os) = op o ∷ row_of os
