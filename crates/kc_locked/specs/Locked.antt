-- The rule of the table: what the slot holds while the lock is free, and what the passes know of it.
use Rattle.std.specs.Prelude.{◌≡◌, ◌≢◌, ℕ, ◌+◌, ◌-◌, ◌<◌, ◌≤◌, List, [], ◌∷◌, ◌++◌, Bool, true, false, Result, Ok, Err, length, slice_index, ◌==◌, take, drop}
use Rattle.std.specs.List.{sum_by, count_by}
use mathlib.Core.Option.{some}
use lib.ListN.{get_elem?}
use Rattle.atomic_table.specs.Table as table
use Rattle.atomic_table.specs.Table.{Me}
use Rattle.kc_history.specs.Callers.{of_caller, IsBelowCallers}
use Rattle.kc_locked.specs.Held.{HeldView, held_view, IsSound}
use Rattle.kc_locked.specs.Origin.{LockOrigin}
use Rattle.kc_locked.specs.Passes.{PassView}
use Rattle.kc_locked.specs.declared.held.Waits.{Waits}
use Rattle.kc_locked.specs.declared.rule.Part.{Part}
use Rattle.kc_locked.specs.declared.rule.View.{View}
use Rattle.kc_model.specs.declared.footprint.Entry.{Entry}

-- all are of this caller
abbrev pub AllOf : ℕ → List Entry → Type 0
AllOf k [] = Unit {0}
AllOf k (e ∷ es) = (e.caller ≡ k) × AllOf k es

abbrev pub pass_part : ℕ → ℕ → List Entry → Part
pass_part caller left own = record { caller = caller; left = left; own = own }

abbrev pub nothing_found : HeldView
nothing_found = held_view [] [] [] 0

-- a view without the lock, and with it
abbrev pub free_view : List Part → View
free_view parts = record { parts = parts; holds = false; found = nothing_found }

abbrev pub lock_view : List Part → HeldView → View
lock_view parts found = record { parts = parts; holds = true; found = found }

-- the parts of these shares, from this caller on
abbrev pub shared_out : ℕ → List ℕ → List Part
shared_out k [] = []
shared_out k (n ∷ ns) = pass_part k n [] ∷ shared_out (k + 1) ns

abbrev pub first_view : LockOrigin → View
first_view o = free_view (shared_out 0 o.shares)

-- whether it is caller k's
abbrev pub is_pass : ℕ → Part → Bool
is_pass k p = p.caller == k

-- how many commits they may still make
abbrev pub parts_left : List Part → ℕ
parts_left ps = sum_by (λ (p : Part). p.left) ps

-- each pass's own list is its part of the history, and it is one of so many callers
abbrev pub PassesFit : ℕ → List Entry → List Part → Type 0
PassesFit callers history [] = Unit {0}
PassesFit callers history (p ∷ ps) = (p.caller < callers) × (p.own ≡ of_caller p.caller history) × PassesFit callers history ps

-- who has the lock knows what is in the slot
pub record LockFits (o : LockOrigin) (now : HeldView) (word holder i : ℕ) (v : View) : Type 0 where
  pub parts : PassesFit (length o.shares) now.history v.parts
  pub lock : v.holds ≡ true → (i ≡ holder) × (v.found ≡ now) × (0 < word)

-- the seat at this place has the lock
abbrev pub IsHeldBy : ℕ → List View → Type 0
IsHeldBy holder views = (v : View) × (get_elem? views holder ≡ some v) × (v.holds ≡ true)

-- What the slot held when the lock was last let go is what all views speak of. While the lock's word is above 0 somebody has it.
pub record LockKept (o : LockOrigin) (s : table.State HeldView View) : Type 0 where
  pub now : HeldView
  pub holder : ℕ
  pub one_slot : length s.homes ≡ 1
  pub two_words : length s.words ≡ 2
  pub free : slice_index s.words 0 ≡ 0 → get_elem? s.homes 0 ≡ some (some now)
  pub taken : 0 < slice_index s.words 0 → IsHeldBy holder s.views
  pub sound : IsSound now
  pub opening : now.opening ≡ o.values
  pub callers : IsBelowCallers (length o.shares) now.history
  pub views : (i : ℕ) (v : View) → get_elem? s.views i ≡ some v → LockFits o now (slice_index s.words 0) holder i v
  pub once : (k : ℕ) → sum_by (λ (v : View). count_by (is_pass k) v.parts) s.views ≤ 1
  pub space : sum_by (λ (v : View). parts_left v.parts) s.views ≤ now.spare

-- The lock was free, and one has it, with what was in the slot; or nothing changed.
abbrev pub TookLock : LockOrigin → Me HeldView View → ℕ → Me HeldView View → Type 0
TookLock o me found after =
    (found ≡ 0 → (h : HeldView) × (after ≡ (lock_view me.0.parts h, (0, h) ∷ me.1)) × IsSound h × (h.opening ≡ o.values) × (parts_left me.0.parts ≤ h.spare))
    × (found ≢ 0 → after ≡ me)

-- these entries of the caller were added, and room was used for them
pub record Grown (k : ℕ) (es : List Entry) (before now : HeldView) : Type 0 where
  pub sound : IsSound now
  pub history : now.history ≡ before.history ++ es
  pub opening : now.opening ≡ before.opening
  pub spare : now.spare + length es ≡ before.spare
  pub mine : AllOf k es

-- the pass with these commits more
abbrev pub committed : List Part → List Entry → List Part
committed [] es = []
committed (p ∷ ps) es = pass_part p.caller (p.left - length es) (p.own ++ es) ∷ ps

-- the lock is free again, with these commits of the pass
abbrev pub GaveLock : List Entry → Me HeldView View → ℕ → Me HeldView View → Type 0
GaveLock es me found after = after ≡ (free_view (committed me.0.parts es), [])

-- a pass has the lock, and in the slot, beside what was found, these entries of its own
pub record HoldsLock (es : List Entry) (me : Me HeldView View) : Type 0 where
  pub caller : ℕ
  pub left : ℕ
  pub own : List Entry
  pub found : HeldView
  pub now : HeldView
  pub is : me ≡ (lock_view (pass_part caller left own ∷ []) found, (0, now) ∷ [])
  pub room : length es ≤ left
  pub grown : Grown caller es found now

-- the first pass goes out, the others stay
abbrev pub pass_dealt : View → View
pass_dealt v = free_view (take 1 v.parts)

abbrev pub passes_left : View → View
passes_left v = record { parts = drop 1 v.parts; holds = v.holds; found = v.found }

abbrev pub passes_gathered : View → View → View
passes_gathered v w = record { parts = v.parts ++ w.parts; holds = v.holds; found = v.found }

-- what is left of a view whose parts were taken in
abbrev pub no_passes : View
no_passes = free_view []

-- what the slot held when the lock was last let go was seen: the passes' own lists are parts of that history
pub record LockEnded (o : LockOrigin) (me after : Me HeldView View) : Type 0 where
  pub now : HeldView
  pub is : after ≡ (record { parts = me.0.parts; holds = me.0.holds; found = now }, me.1)
  pub opening : now.opening ≡ o.values
  pub sound : IsSound now
  pub below : IsBelowCallers (length o.shares) now.history
  pub fit : PassesFit (length o.shares) now.history me.0.parts

-- what was entered: one commit, or where it waits none
abbrev pub entered_by : {A : Type 0} → Result A Waits → Entry → List Entry
entered_by (Ok a) e = e ∷ []
entered_by (Err w) e = []

-- one has the lock now, with what was in the slot
abbrev pub Taken : LockOrigin → Me HeldView View → Me HeldView View → Type 0
Taken o me after = (h : HeldView) × (after ≡ (lock_view me.0.parts h, (0, h) ∷ me.1)) × IsSound h × (h.opening ≡ o.values) × (parts_left me.0.parts ≤ h.spare)

-- the parts of a view
abbrev pub own_first : List Part → List Entry
own_first [] = []
own_first (p ∷ ps) = p.own

-- each part is of the pass at its place
abbrev pub MatchesPasses : List Part → List PassView → Type 0
MatchesPasses [] [] = Unit {0}
MatchesPasses [] (s ∷ ss) = ⊥
MatchesPasses (p ∷ ps) [] = ⊥
MatchesPasses (p ∷ ps) (s ∷ ss) = (p.caller ≡ s.caller) × (p.own ≡ s.own) × MatchesPasses ps ss
