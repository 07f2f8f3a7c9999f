-- The clients that handles hold.
use Rattle.std.specs.Prelude.{◌≡◌, ◌≢◌, ◌==◌, ◌||◌, ℕ, suc, Bool, false, List, [], ◌∷◌, length, replicate}
use Rattle.std.specs.Arc.{arc_value}
use Rattle.kc_c.specs.declared.client.Client.{Client}
use Rattle.kc_c.specs.declared.handle.KcasCaller.{KcasCaller}
use Rattle.kc_c.specs.declared.standing.Standing.TheVariants as standing
use Rattle.kc_store.specs.Knows.{OpensWith}
use Rattle.kc_store.specs.Views.{CallerView, StoreView, opened_caller}

-- it has this caller, which rests, and has read nothing
pub record IsNew (z : StoreView) (c : CallerView) (x : Client) : Type 0 where
  pub store : arc_value x.store ≡ z
  pub caller : x.standing ≡ standing.Rests c
  pub reads : x.footprint.reads.items ≡ []

-- the handle holds a client
abbrev pub IsOpen : KcasCaller → Type 0
IsOpen h = h.held ≡ 1

abbrev pub HandleIsClosed : KcasCaller → Type 0
HandleIsClosed h = h.held ≢ 1

abbrev pub some_open : List KcasCaller → Bool
some_open [] = false
some_open (h ∷ hs) = (h.held == 1) || some_open hs

-- the caller of this number of a store that was just opened
abbrev pub IsOpened : StoreView → ℕ → KcasCaller → Type 0
IsOpened z k h = IsOpen h × IsNew z (opened_caller z k) h.value

-- one after another, from this number on
abbrev pub AreOpened : StoreView → ℕ → List KcasCaller → Type 0
AreOpened z k [] = Unit {0}
AreOpened z k (h ∷ hs) = IsOpened z k h × AreOpened z (suc k) hs

-- they are all callers of one store, in which these values stand at version 0, and whose descriptors have all their lives
pub record OpensAll (values : List ℕ) (handles : List KcasCaller) : Type 0 where
  pub store : StoreView
  pub opens : OpensWith values (replicate (length values) 0) (length handles) store
  pub lives : store.table.origin.generation ≡ 0
  pub are : AreOpened store 0 handles
