-- The counts from which the order is made. They serve private functions and proofs.
use Rattle.std.specs.Prelude.{◌≡◌, ℕ, zero, suc, ◌+◌, ◌-◌, ◌^◌, ◌<◌, ◌≤◌, List, [], ◌∷◌, map, Option, Some, All, AllPairs, drop, slice_get, Bool, ◌==◌, ◌&&◌, count_by, sum_by, length, slice_index}
use Rattle.kc_history.specs.RecordsValue.{RecordsValue}
use Rattle.kc_history.specs.declared.record.Record.{Record}
use Rattle.kc_model.specs.Footprint.{PutsWhatItReads}
use Rattle.kc_model.specs.declared.footprint.Footprint.{Footprint}
use Rattle.kc_model.specs.declared.footprint.Put.{Put}
use Rattle.kc_model.specs.declared.footprint.Seen.{Seen}

abbrev pub reads_at : ℕ → ℕ → Seen → Bool
reads_at l v r = (r.loc.0 == l) && (r.version == v)

-- how many of the reads are of this version of this location
abbrev pub readers : ℕ → ℕ → List Seen → ℕ
readers l v rs = count_by (reads_at l v) rs

abbrev pub puts_at : ℕ → Put → Bool
puts_at l p = p.loc.0 == l

abbrev pub putters : ℕ → List Put → ℕ
putters l ps = count_by (puts_at l) ps

-- how many versions of a location are counted
abbrev pub width : List ℕ → ℕ → ℕ
width starts l = slice_index starts (l + 1) - slice_index starts l

-- where a version's count lies
abbrev pub slot : List ℕ → ℕ → ℕ → ℕ
slot starts l v = slice_index starts l + v

-- the counts of each location lie behind those of the one before it
pub record Slots (starts : List ℕ) (size : ℕ) : Type 0 where
  pub rises : (l : ℕ) → l + 1 < length starts → slice_index starts l ≤ slice_index starts (l + 1)
  pub ends : (l : ℕ) → l < length starts → slice_index starts l ≤ size

-- the counts are less by these reads
abbrev pub Forgets : List ℕ → List ℕ → List ℕ → List Seen → Type 0
Forgets starts left left' rs = (l v : ℕ) → l + 1 < length starts → v < width starts l → slice_index left' (slot starts l v) + readers l v rs ≡ slice_index left (slot starts l v)

abbrev pub records_in : List RecordsValue → ℕ
records_in vs = sum_by (λ v. length v.items) vs

abbrev pub footprints : List Record → List Footprint
footprints rs = map (λ r. r.footprint) rs

-- the footprints of a thread
abbrev pub list_at : List RecordsValue → ℕ → List Footprint
list_at [] u = []
list_at (v ∷ vs) zero = footprints v.items
list_at (v ∷ vs) (suc u) = list_at vs u

abbrev pub foot_at : List RecordsValue → ℕ → ℕ → Option Footprint
foot_at vs u k = slice_get (list_at vs u) k

-- the sum over all records that don't stand yet
abbrev pub sum_unplaced : (Footprint → ℕ) → List RecordsValue → (ℕ → ℕ) → ℕ
sum_unplaced w [] n = 0
sum_unplaced w (v ∷ vs) n = sum_by w (drop (n zero) (footprints v.items)) + sum_unplaced w vs (λ u. n (suc u))

abbrev pub readers_of : ℕ → ℕ → Footprint → ℕ
readers_of l v f = readers l v f.reads.items

abbrev pub putters_of : ℕ → Footprint → ℕ
putters_of l f = putters l f.puts.items

-- what is well made, where so many locations are
pub record WellMade (n : ℕ) (f : Footprint) : Type 0 where
  pub reads_rise : AllPairs (λ (p q : Seen). p.loc.0 < q.loc.0) f.reads.items
  pub puts_rise : AllPairs (λ (p q : Put). p.loc.0 < q.loc.0) f.puts.items
  pub puts_read : PutsWhatItReads f
  pub below : All (λ (r : Seen). r.loc.0 < n) f.reads.items
  pub last : All (λ (p : Put). p.version + 1 < 2 ^ 31) f.puts.items

abbrev pub AllWellMade : ℕ → List RecordsValue → Type 0
AllWellMade n vs = (u k : ℕ) (f : Footprint) → foot_at vs u k ≡ Some f → WellMade n f

-- the next record of the thread passes the test by counts
pub record PassesCounts (vs : List RecordsValue) (next versions starts left : List ℕ) (t : ℕ) (f : Footprint) : Type 0 where
  pub is : foot_at vs t (slice_index next t) ≡ Some f
  pub finds : All (λ (r : Seen). slice_index versions r.loc.0 ≡ r.version) f.reads.items
  pub alone : All (λ (p : Put). slice_index left (slot starts p.loc.0 (slice_index versions p.loc.0)) ≡ 1) f.puts.items

-- what the counts are
pub record Counted (vs : List RecordsValue) (next versions starts left : List ℕ) : Type 0 where
  pub slots : Slots starts (length left)
  pub lengths : length starts ≡ length versions + 1
  pub counts : (l v : ℕ) → l < length versions → v < width starts l → slice_index left (slot starts l v) ≡ sum_unplaced (readers_of l v) vs (slice_index next)
  pub widths : (l : ℕ) → l < length versions → slice_index versions l + sum_unplaced (putters_of l) vs (slice_index next) + 1 ≡ width starts l
