-- What may hold of a meaning, whichever way it runs.
use Rattle.std.specs.Prelude.{◌≡◌, ◌≢◌, ℕ, List, None}
use Rattle.kc_xt.specs.Meaning.{too_large, Meaning, AllBelow, map_after, last_written}

-- a property of maps stays, where the meaning isn't too large
abbrev pub Preserves : ((ℕ → ℕ) → Type 0) → Meaning → Type 0
Preserves P mean = (n : ℕ) (m : ℕ → ℕ) (ks : List ℕ) → P m → (mean n m ks).outcome ≢ too_large → P (map_after m (mean n m ks).touches)

-- nothing is written at a location
abbrev pub LeavesAlone : ℕ → Meaning → Type 0
LeavesAlone l mean = (n : ℕ) (m : ℕ → ℕ) (ks : List ℕ) → last_written (mean n m ks).touches l ≡ None

-- each location touched is below a number
abbrev pub StaysBelow : ℕ → Meaning → Type 0
StaysBelow b mean = (n : ℕ) (m : ℕ → ℕ) (ks : List ℕ) → AllBelow b (mean n m ks).touches
