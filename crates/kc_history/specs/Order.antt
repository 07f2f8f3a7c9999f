-- Legal lists of records, and the canonical order.
use Rattle.std.specs.Prelude.{◌≡◌, ◌≢◌, ℕ, ◌+◌, ◌<◌, ◌≤◌, List, [], ◌∷◌, cond, Option, Some, None, ◌==◌}
use Rattle.kc_history.specs.declared.record.Place.{Place}
use Rattle.kc_model.specs.Footprint.{Reads, Puts, put_at}
use Rattle.kc_model.specs.Store.{Store, Finds, after}
use Rattle.kc_model.specs.declared.footprint.Footprint.{Footprint}
use Rattle.kc_model.specs.declared.footprint.Put.{Put}
use Rattle.kc_model.specs.declared.footprint.Seen.{Seen}

-- the footprint of a thread's record, by the thread and the index in it
abbrev pub Footprints : Type 0
Footprints = ℕ → ℕ → Option Footprint

-- one more record of the thread stands
abbrev pub one_record_more : ℕ → (ℕ → ℕ) → ℕ → ℕ
one_record_more t n u = cond (u == t) (n u + 1) (n u)

-- the record at the place is the next of its thread
abbrev pub IsNext : Footprints → (ℕ → ℕ) → Place → Footprint → Type 0
IsNext a n p f = (p.index ≡ n p.thread) × (a p.thread p.index ≡ Some f)

abbrev pub NoneLeft : Footprints → (ℕ → ℕ) → Type 0
NoneLeft a n = (u k : ℕ) (f : Footprint) → a u k ≡ Some f → k < n u

-- the places take in all records that don't stand yet, in each thread's order, and make a legal list from `s` to `e`
abbrev pub Legal : Footprints → (ℕ → ℕ) → Store → List Place → Store → Type 0
Legal a n s [] e = NoneLeft a n × (e ≡ s)
Legal a n s (p ∷ ps) e = (f : Footprint) × IsNext a n p f × Finds f s × Legal a (one_record_more p.thread n) (after f s) ps e

-- ---- the canonical order: at each place stands the ready record of the lowest thread

abbrev pub version_after : Option Put → ℕ → ℕ
version_after None v = v
version_after (Some p) v = v + 1

-- the versions after the puts
abbrev pub raised : Footprint → (ℕ → ℕ) → ℕ → ℕ
raised f v l = version_after (put_at f.puts.items l) (v l)

-- no other record that doesn't stand yet reads a version that the footprint would end
abbrev pub EndsNoOthers : Footprints → (ℕ → ℕ) → Place → Footprint → Type 0
EndsNoOthers a n p f = (u k : ℕ) (g : Footprint) → a u k ≡ Some g → n u ≤ k → (u ≡ p.thread → k ≢ p.index) →
    (q : Put) → Puts f q → (r : Seen) → Reads g r → r.loc.0 ≡ q.loc.0 → r.version ≢ q.version

-- All earlier records of its thread stand, its reads have the versions that the records standing make, and it ends no version that another one is still to read.
pub record Ready (a : Footprints) (n v : ℕ → ℕ) (p : Place) (f : Footprint) : Type 0 where
  pub next : IsNext a n p f
  pub reads : (r : Seen) → Reads f r → v r.loc.0 ≡ r.version
  pub alone : EndsNoOthers a n p f

pub record Chosen (a : Footprints) (n v : ℕ → ℕ) (p : Place) (f : Footprint) : Type 0 where
  pub ready : Ready a n v p f
  pub lowest : (q : Place) (g : Footprint) → Ready a n v q g → p.thread ≤ q.thread

-- the places are chosen one by one, and lead from the numbers `n` and versions `v` to `m` and `w`
abbrev pub Chooses : Footprints → (ℕ → ℕ) → (ℕ → ℕ) → List Place → (ℕ → ℕ) → (ℕ → ℕ) → Type 0
Chooses a n v [] m w = (m ≡ n) × (w ≡ v)
Chooses a n v (p ∷ ps) m w = (f : Footprint) × Chosen a n v p f × Chooses a (one_record_more p.thread n) (raised f v) ps m w

-- no record that doesn't stand yet is ready
abbrev pub NoneReady : Footprints → (ℕ → ℕ) → (ℕ → ℕ) → Type 0
NoneReady a n v = (p : Place) (f : Footprint) → Ready a n v p f → ⊥

-- the canonical order, which takes in all records
pub record IsCanonical (a : Footprints) (ps : List Place) : Type 0 where
  pub stand : ℕ → ℕ
  pub versions : ℕ → ℕ
  pub chooses : Chooses a (λ _. 0) (λ _. 0) ps stand versions
  pub all : NoneLeft a stand
