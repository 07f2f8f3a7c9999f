-- Room for an order, as contracts see it.
use Rattle.std.specs.Prelude.{ℕ, List}
use Rattle.kc_history.specs.declared.record.Place.{Place}

-- for how many threads and records it has room, and the order found last
pub record RoomValue : Type 0 where
  pub threads : ℕ
  pub records : ℕ
  pub order : List Place
