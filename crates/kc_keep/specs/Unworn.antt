-- A store of which nothing is worn.
use Rattle.std.specs.Prelude.{ℕ, List, length, replicate}
use Rattle.kc_store.specs.Knows.{OpensWith}
use Rattle.kc_store.specs.Views.{StoreView}
use Rattle.kc_store.specs.kc_table_moves.Views.{OpensAt}

-- It opened with these values, for so many callers: each location at version 0, and each descriptor in its first life.
pub record OpensUnworn (opened : List ℕ) (callers : ℕ) (z : StoreView) : Type 0 where
  pub versions : OpensWith opened (replicate (length opened) 0) callers z
  pub lives : OpensAt opened (replicate (length opened) 0) callers 0 z.table
