-- How an arranging of records ends.
use Rattle.std.specs.Prelude.{◌≡◌, ℕ, ◌+◌, ◌<◌, List, Some}
use Rattle.kc_history.specs.Order.{Footprints, Legal, Chooses, NoneReady}
use Rattle.kc_history.specs.declared.arranging.Cycle.{Cycle}
use Rattle.kc_history.specs.declared.record.Place.{Place}
use Rattle.kc_model.specs.Footprint.{IsWellMade, IsBelow}
use Rattle.kc_model.specs.Store.{Store}
use Rattle.kc_model.specs.declared.footprint.Footprint.{Footprint}
use Rattle.kc_model.specs.declared.plain_store.TheConstants.{MOST_LOCATIONS}

-- the footprint is well made, and of a store of so many locations
abbrev pub CanStandIn : ℕ → Footprint → Type 0
CanStandIn n f = IsWellMade f × IsBelow n f

abbrev pub AllCanStandIn : ℕ → Footprints → Type 0
AllCanStandIn n a = (u k : ℕ) (f : Footprint) → a u k ≡ Some f → CanStandIn n f

-- of locations that a store may have
abbrev pub CanStand : Footprint → Type 0
CanStand f = CanStandIn MOST_LOCATIONS f

abbrev pub AreWellMade : Footprints → Type 0
AreWellMade a = AllCanStandIn MOST_LOCATIONS a

-- the lowest thread with a record left, where so many of each thread stand
pub record IsFirstLeft (a : Footprints) (n : ℕ → ℕ) (t : ℕ) : Type 0 where
  pub left : (f : Footprint) × (a t (n t) ≡ Some f)
  pub before : (u k : ℕ) (f : Footprint) → u < t → a u k ≡ Some f → k < n u

-- The choice of ready records comes to an end with a record left: the next one of the lowest thread that has one.
pub record IsStuck (a : Footprints) (c : Cycle) : Type 0 where
  pub places : List Place
  pub stand : ℕ → ℕ
  pub versions : ℕ → ℕ
  pub chooses : Chooses a (λ _. 0) (λ _. 0) places stand versions
  pub none : NoneReady a stand versions
  pub thread : ℕ
  pub is_thread : c.thread ≡ thread + 1
  pub is_number : c.number ≡ stand thread + 1
  pub first : IsFirstLeft a stand thread

-- the records have a legal list from versions 0, in each thread's order
pub record HasLegalList (a : Footprints) : Type 0 where
  pub opening : Store
  pub opens : (l : ℕ) → (opening l).version ≡ 0
  pub places : List Place
  pub ending : Store
  pub legal : Legal a (λ _. 0) opening places ending
