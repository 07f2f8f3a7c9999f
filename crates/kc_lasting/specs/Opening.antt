-- A store that lasts as it opens.
use Rattle.std.specs.Prelude.{◌≡◌, ℕ, ◌+◌, ◌++◌, List, [], ◌∷◌, All, length, map}
use Rattle.atomic_table.specs.Seated.{TableId}
use Rattle.kc_lasting.specs.Eras.{first_line}
use Rattle.kc_lasting.specs.declared.client.Fresh.{Fresh}
use Rattle.kc_lasting.specs.declared.handle.LastingCaller.{LastingCaller}
use Rattle.std.specs.Arc.{arc_value}
use Rattle.kc_store.specs.Knows.{OpensWith}
use Rattle.kc_store.specs.Views.{CallerView, StoreView}

-- a handle of the first era, which has this store: it has committed nothing, and knows of no other era
pub record IsFirst (roll : TableId) (z : StoreView) (h : LastingCaller) : Type 0 where
  pub of : h.client.caller.of ≡ z
  pub own : h.client.caller.own ≡ []
  pub locations : z.locations ≡ h.client.locations + 1
  pub era : h.place.era ≡ 0
  pub lines : h.place.page.seen ≡ first_line z ∷ []
  pub roll_is : (arc_value h.shared).roll ≡ roll

-- so many handles of one store, which was opened with these values at these versions, and with one location and one caller more
pub record OpensLasting (values versions : List ℕ) (callers : ℕ) (hs : List LastingCaller) : Type 0 where
  pub store : StoreView
  pub roll : TableId
  pub opens : OpensWith (values ++ 0 ∷ []) (versions ++ 0 ∷ []) (callers + 1) store
  pub count : length hs ≡ callers
  pub all : All (IsFirst roll store) hs

-- a client of the first era
pub record IsFirstClient (z : StoreView) (c : Fresh) : Type 0 where
  pub of : c.client.caller.of ≡ z
  pub locations : z.locations ≡ c.client.locations + 1

abbrev pub callers_of : List Fresh → List CallerView
callers_of xs = map (λ (x : Fresh). x.client.caller) xs
