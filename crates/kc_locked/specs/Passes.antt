-- What is seen of a store, of a pass and of the past.
use Rattle.std.specs.Prelude.{◌≡◌, ℕ, ◌+◌, List, [], ◌∷◌, ◌++◌, All, length}
use Rattle.atomic_table.specs.Seated.{TableId}
use Rattle.kc_history.specs.Callers.{IsLegalFrom, IsBelowCallers, record_entry, of_caller}
use Rattle.kc_model.specs.declared.footprint.Entry.{Entry}
use Rattle.kc_model.specs.declared.footprint.Footprint.{Footprint}
use Rattle.kc_model.specs.declared.reply.Answer.{Answer}
use Rattle.kc_xt.specs.Commit.{Answers}
use Rattle.kc_xt.specs.Meaning.{Meaning}

-- which store it is, its opening values, and how many passes it has
pub record LockedStoreView : Type 0 where
  pub table : TableId
  pub opening : List ℕ
  pub callers : ℕ

-- of which store it is, its number, how many commits it may still make, and those that it made
pub record PassView : Type 0 where
  pub table : TableId
  pub caller : ℕ
  pub left : ℕ
  pub own : List Entry

-- the opening values, and the one history
pub record LockedPastView : Type 0 where
  pub opening : List ℕ
  pub history : List Entry

abbrev pub pass_of : TableId → ℕ → ℕ → List Entry → PassView
pass_of table caller left own = record { table = table; caller = caller; left = left; own = own }

-- the passes with these shares, from this caller on
abbrev pub passes_of : TableId → ℕ → List ℕ → List PassView
passes_of table k [] = []
passes_of table k (n ∷ ns) = pass_of table k n [] ∷ passes_of table (k + 1) ns

-- a store that was opened on these values, with a pass for each share, in their order
pub record OpenedWithPasses (values shares : List ℕ) (store : LockedStoreView) (passes : List PassView) : Type 0 where
  pub opening : store.opening ≡ values
  pub callers : store.callers ≡ length shares
  pub dealt : passes ≡ passes_of store.table 0 shares

-- the pass made one commit more, with this footprint; its commits are numbered from 1
pub record Made (m : Meaning) (a : Answer) (f : Footprint) (before now : PassView) : Type 0 where
  pub answers : Answers m a f
  pub own : now.own ≡ before.own ++ record_entry before.caller (length before.own + 1) f ∷ []
  pub left : now.left + 1 ≡ before.left
  pub caller : now.caller ≡ before.caller
  pub table : now.table ≡ before.table

-- the history is legal from the opening values at versions 0
abbrev pub IsLegalPast : LockedPastView → Type 0
IsLegalPast p = IsLegalFrom p.opening p.history

-- The one history: it is legal from the opening values at versions 0, each pass's own list is its caller's part of it, and nobody else has an entry in it.
pub record IsLockPast (store : LockedStoreView) (passes : List PassView) (past : LockedPastView) : Type 0 where
  pub opening : past.opening ≡ store.opening
  pub legal : IsLegalPast past
  pub own : All (λ (p : PassView). of_caller p.caller past.history ≡ p.own) passes
  pub nobody_else : IsBelowCallers store.callers past.history
