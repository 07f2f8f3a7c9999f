-- What contracts see of a thread's records.
use Rattle.std.specs.Prelude.{ℕ, List}
use Rattle.kc_history.specs.declared.record.Record.{Record}

-- the records, how many more there is room for, how many more behind those of which the footprint alone is kept, and how many locations each may touch
pub record RecordsValue : Type 0 where
  pub items : List Record
  pub spare : ℕ
  pub bare : ℕ
  pub limit : ℕ
