-- What a store was opened with.
use Rattle.std.specs.Prelude.{ℕ, List, []}

pub record LockOrigin : Type 0 where
  pub values : List ℕ
  pub shares : List ℕ

abbrev pub origin : List ℕ → List ℕ → LockOrigin
origin values shares = record { values = values; shares = shares }

abbrev pub no_origin : LockOrigin
no_origin = record { values = []; shares = [] }
