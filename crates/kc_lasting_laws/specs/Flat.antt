-- The eras as one history: one behind another, each entry's versions raised by those that the eras before had made.
use Rattle.std.specs.Prelude.{ℕ, zero, suc, ◌+◌, ◌++◌, List, [], ◌∷◌, Option, Some, None, map}
use Rattle.kc_lasting.specs.Cuts.{left_by}
use Rattle.kc_lasting.specs.declared.line.Line.{Line}
use Rattle.kc_store.specs.Views.{NoteView}
use Rattle.kc_lasting_laws.specs.Raised.{entry_raised}
use Rattle.kc_model.specs.declared.footprint.Entry.{Entry}

-- the versions that these eras made at each location, and with one more, if it has ended
abbrev pub versions_with : (ℕ → ℕ) → Option NoteView → ℕ → ℕ
versions_with b None l = b l
versions_with b (Some n) l = b l + (left_by n.of n.known l).version

abbrev pub history_raised : (ℕ → ℕ) → Option NoteView → List Entry
history_raised b None = []
history_raised b (Some n) = map (entry_raised b) n.known

-- what these lines say of how eras ended, one behind another
abbrev pub flat_from : (ℕ → ℕ) → List Line → List Entry
flat_from b [] = []
flat_from b (l ∷ ls) = history_raised b l.ended ++ flat_from (versions_with b l.ended) ls

abbrev pub versions_from : (ℕ → ℕ) → List Line → ℕ → (ℕ → ℕ)
versions_from b [] k = b
versions_from b (l ∷ ls) zero = b
versions_from b (l ∷ ls) (suc k) = versions_from (versions_with b l.ended) ls k

abbrev pub no_versions : ℕ → ℕ
no_versions l = 0

-- the one history of all eras that have ended
abbrev pub flat_history : List Line → List Entry
flat_history [] = []
flat_history (l ∷ ls) = flat_from no_versions ls

-- how many versions the eras before era k made at each location
abbrev pub versions_before : List Line → ℕ → (ℕ → ℕ)
versions_before [] k = no_versions
versions_before (l ∷ ls) k = versions_from no_versions ls k
