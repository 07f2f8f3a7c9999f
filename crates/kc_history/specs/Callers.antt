-- A history by its callers.
use Rattle.std.specs.Prelude.{◌≡◌, ℕ, ◌+◌, ◌<◌, List, [], ◌∷◌, All, if◌then◌else◌, ◌==◌, slice_index_or}
use Rattle.kc_history.specs.declared.record.Record.{Record}
use Rattle.kc_model.specs.Legal.{IsLegal}
use Rattle.kc_model.specs.Store.{Store, store_of, opened}
use Rattle.kc_model.specs.declared.footprint.Entry.{Entry}
use Rattle.kc_model.specs.declared.footprint.Footprint.{Footprint}

-- the history is legal from these values at versions 0
abbrev pub IsLegalFrom : List ℕ → List Entry → Type 0
IsLegalFrom opening history = (end : Store) × IsLegal (store_of (opened opening)) history end

-- a caller's entries, in their order
abbrev pub of_caller : ℕ → List Entry → List Entry
of_caller k [] = []
of_caller k (e ∷ es) = if e.caller == k then e ∷ of_caller k es else of_caller k es

-- each is of one of so many callers
abbrev pub IsBelowCallers : ℕ → List Entry → Type 0
IsBelowCallers callers history = All (λ (e : Entry). e.caller < callers) history

abbrev pub record_entry : ℕ → ℕ → Footprint → Entry
record_entry caller number f = record { caller = caller; number = number; footprint = f }

-- the caller's entries of these records, numbered from here on
abbrev pub record_entries : ℕ → ℕ → List Record → List Entry
record_entries caller number [] = []
record_entries caller number (r ∷ rs) = record_entry caller number r.footprint ∷ record_entries caller (number + 1) rs

-- The history has just these records: each caller's entries are those of the list at its place, in order and numbered from 1, and nobody else has one.
abbrev pub HasJust : List (List Record) → List Entry → Type 0
HasJust records history = (caller : ℕ) → of_caller caller history ≡ record_entries caller 1 (slice_index_or records caller [])
