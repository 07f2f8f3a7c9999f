-- What is known of the records that come next, and what holds while records are placed. It serves private functions and proofs.
use Rattle.std.specs.Prelude.{◌≡◌, ℕ, ◌+◌, ◌<◌, ◌≤◌, List, Some, All, take, length, slice_index, slice_index_or}
use Rattle.kc_history.specs.RecordsValue.{RecordsValue}
use Rattle.kc_history.specs.Counts.{Counted, foot_at, records_in, slot, sum_unplaced}
use Rattle.kc_history.specs.Order.{Chooses}
use Rattle.kc_history.specs.declared.placing.Tested.{Tested}
use Rattle.kc_history.specs.declared.record.Place.{Place}
use Rattle.kc_model.specs.declared.footprint.Footprint.{Footprint}
use Rattle.kc_model.specs.declared.footprint.Put.{Put}
use Rattle.kc_model.specs.declared.footprint.Seen.{Seen}

-- the read's version stands
abbrev pub FindsVersion : List ℕ → Seen → Type 0
FindsVersion versions r = slice_index versions r.loc.0 ≡ r.version

-- one record alone still reads the version that the put ends
abbrev pub IsReadByOne : List ℕ → List ℕ → List ℕ → Put → Type 0
IsReadByOne versions starts left p = slice_index left (slot starts p.loc.0 (slice_index versions p.loc.0)) ≡ 1

-- the first reads of a footprint find their versions; puts are tested once all reads are
pub record IsTested (versions starts left : List ℕ) (k : Tested) (f : Footprint) : Type 0 where
  pub finds : All (FindsVersion versions) (take k.reads f.reads.items)
  pub alone : All (IsReadByOne versions starts left) (take k.puts f.puts.items)
  pub behind : 0 < k.puts → length f.reads.items ≤ k.reads

abbrev pub untested : Tested
untested = record { reads = 0; puts = 0 }

-- of each thread's next record
abbrev pub AllTested : List RecordsValue → List ℕ → List ℕ → List ℕ → List ℕ → List Tested → Type 0
AllTested vs next versions starts left tested = (u : ℕ) (f : Footprint) → foot_at vs u (slice_index next u) ≡ Some f → IsTested versions starts left (slice_index_or tested u untested) f

-- what holds while records are placed
pub record Placing (vs : List RecordsValue) (order : List Place) (placed : ℕ) (next versions starts left : List ℕ) (tested : List Tested) : Type 0 where
  pub chooses : Chooses (foot_at vs) (λ _. 0) (λ _. 0) (take placed order) (slice_index next) (slice_index versions)
  pub counted : Counted vs next versions starts left
  pub known : AllTested vs next versions starts left tested
  pub room : placed + sum_unplaced (λ _. 1) vs (slice_index next) ≡ records_in vs
