-- Entries of few callers, each of which made few.
use Rattle.std.specs.Prelude.{◌≤◌, ◌<◌, ℕ, List, All, length}
use Rattle.kc_model.specs.declared.footprint.Entry.{Entry}
use Rattle.kc_store.specs.Knows.{entries_of}

-- each of n callers made at most m of them, and nobody else made any
pub record FewEach (n m : ℕ) (es : List Entry) : Type 0 where
  pub callers : All (λ (e : Entry). e.caller < n) es
  pub few : (k : ℕ) → k < n → length (entries_of k es) ≤ m
