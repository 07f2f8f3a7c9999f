-- What a handle comes to know of its last commit, where its era may have ended.
use Rattle.std.specs.Prelude.{◌≡◌, ◌≢◌, ◌++◌, ◌∷◌, ℕ, ◌<◌, ◌≤◌, List, [], Contains, Some, get_or, length, take}
use Rattle.kc_lasting.specs.Cuts.{IsCut, IsKnownAt, left_by}
use Rattle.kc_lasting.specs.declared.settling.Side.{Side}
use Rattle.kc_lasting.specs.declared.settling.Side.TheVariants as side
use Rattle.kc_model.specs.Footprint.{put_at}
use Rattle.kc_model.specs.declared.footprint.Entry.{Entry}
use Rattle.kc_model.specs.declared.footprint.Footprint.{Footprint}
use Rattle.kc_model.specs.declared.footprint.Put.{Put}
use Rattle.kc_model.specs.declared.footprint.Seen.{Seen}
use Rattle.kc_store.specs.Knows.{IsWithin, OnlyLearns, entries_of, entry_of}
use Rattle.kc_store.specs.Viewing.{FrontMakes, StandsAtOnce}
use Rattle.kc_store.specs.Views.{CallerView, StoreView, store_opening}
use Rattle.kc_store.specs.kc_machine_traces.Histories.{entries, seen_as_cell}
use Rattle.kc_store.specs.kc_table_laws.Tasks.{KeepsKnown}
use Rattle.kc_store.specs.kc_table_moves.Views.{SeatView, knows}

-- what a seat knows, as entries
abbrev pub entries_known : SeatView → List Entry
entries_known v = entries (knows v)

-- The history with which the era of caller k of store z ended, who had had these own entries, and was confirmed at s. It has no other entry of the caller, and all that the caller knew at s, among that its own entries. And what the caller had been shown until then stands there: each read, and the reads of each view at one moment
pub record StandsBefore (z : StoreView) (k : ℕ) (had : List Entry) (s : CallerView) (part : List Entry) : Type 0 where
  pub cells : List Seen
  pub cut : IsCut z part cells
  pub known : IsWithin (entries_known s.seat) part
  pub own : IsWithin s.own (entries_of k part)
  pub no_other : IsWithin (entries_of k part) had
  pub reads : (l : ℕ) (r : Seen) → IsKnownAt s.seat l r → (n : ℕ) × (left_by z (take n part) l ≡ seen_as_cell r)
  pub views : (x u : CallerView) (f : Footprint) → StandsAtOnce f x u → KeepsKnown u.seat s.seat → FrontMakes (store_opening z) part (entries_known x.seat) f

-- the first put of a footprint, and its side of the versions of a cut
pub record PutsBelow (f : Footprint) (versions : List ℕ) : Type 0 where
  pub at : ℕ
  pub put : Put
  pub puts : put_at f.puts.items at ≡ Some put
  pub within : at < length versions
  pub below : put.version < get_or versions at 0

pub record PutsAbove (f : Footprint) (versions : List ℕ) : Type 0 where
  pub at : ℕ
  pub put : Put
  pub puts : put_at f.puts.items at ≡ Some put
  pub within : at < length versions
  pub above : get_or versions at 0 ≤ put.version

abbrev pub IsSideOf : Side → Footprint → List ℕ → Type 0
IsSideOf side.Open f versions = ⊥
IsSideOf side.Before f versions = PutsBelow f versions
IsSideOf side.Behind f versions = f.puts.items ≢ [] → PutsAbove f versions
IsSideOf side.Unknown f versions = Unit {0}

-- the one entry that the caller has more than these, with this footprint, stands in this history
abbrev pub CountsIn : List Entry → List Entry → CallerView → Footprint → Type 0
CountsIn part own b f = (n : ℕ) → b.own ≡ own ++ entry_of b.number n f ∷ [] → ∥ Contains part (entry_of b.number n f) ∥₁

-- it doesn't, if it puts something
abbrev pub IsCutAway : List Entry → List Entry → CallerView → Footprint → Type 0
IsCutAway part own b f = (n : ℕ) → b.own ≡ own ++ entry_of b.number n f ∷ [] → f.puts.items ≢ [] → ¬ Contains part (entry_of b.number n f)

-- the caller has learned, and what it saw when is as it was
pub record StaysAsSeen (c s d t : CallerView) : Type 0 where
  pub learns : OnlyLearns c d
  pub seen : t ≡ s

-- of a caller c that had seen s, and has committed with this footprint since then, whose era ended with this history
abbrev pub IsLearned : List Entry → Side → (c s : CallerView) → Footprint → (d t : CallerView) → Type 0
IsLearned part side.Open c s f d t = ⊥
IsLearned part side.Before c s f d t = StaysAsSeen c s d t × ∥ StandsBefore c.of c.number c.own s part ∥₁ × CountsIn part s.own c f
IsLearned part side.Behind c s f d t = StaysAsSeen c s d t × ∥ StandsBefore c.of c.number c.own s part ∥₁ × IsCutAway part s.own c f
IsLearned part side.Unknown c s f d t = StaysAsSeen c s d t

-- likewise, where its era may go on; this is known of the history with which it ended
abbrev pub IsSettled : (List Entry → Type 0) → Side → (c s : CallerView) → Footprint → (d t : CallerView) → Type 0
IsSettled p side.Open c s f d t = OnlyLearns c d × (t ≡ c)
IsSettled p side.Before c s f d t = (part : List Entry) × p part × IsLearned part side.Before c s f d t
IsSettled p side.Behind c s f d t = (part : List Entry) × p part × IsLearned part side.Behind c s f d t
IsSettled p side.Unknown c s f d t = StaysAsSeen c s d t
