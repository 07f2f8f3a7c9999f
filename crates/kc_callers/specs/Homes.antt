-- Whose places they are, and who stands there.
use Rattle.std.specs.Prelude.{◌≡◌, ℕ, suc, ◌<◌, List, [], ◌∷◌, Option, IfSome, length, slice_index_or}
use Rattle.kc_callers.specs.declared.home.Idle.{Idle}
use Rattle.kc_holder.specs.Lent.{HolderView}
use Rattle.kc_store.specs.Views.{StoreView}

-- the k-th is for the caller of number k
abbrev pub AreHomesOf : StoreView → List (HolderView (StoreView × ℕ)) → Type 0
AreHomesOf z hs = (k : ℕ) (d : HolderView (StoreView × ℕ)) → k < length hs → (slice_index_or hs k d).tag ≡ (z, k)

-- those who are there are the callers of the numbers from k on, each in its place
abbrev pub AreAtHome : StoreView → ℕ → List (Option Idle) → Type 0
AreAtHome z k [] = Unit {0}
AreAtHome z k (o ∷ os) = IfSome o (λ (i : Idle). (i.caller.of ≡ z) × (i.caller.number ≡ k)) × AreAtHome z (suc k) os
