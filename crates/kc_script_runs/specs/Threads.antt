-- What threads commit, and whose commits they are.
use Rattle.std.specs.Prelude.{◌≡◌, ℕ, suc, ◌+◌, List, [], ◌∷◌, ◌++◌, length, map}
use Rattle.kc_history.specs.Callers.{of_caller, record_entry}
use Rattle.kc_history.specs.declared.record.Record.{Record}
use Rattle.kc_model.specs.Footprint.{IsBelow}
use Rattle.kc_model.specs.declared.footprint.Entry.{Entry}
use Rattle.kc_model.specs.declared.footprint.Footprint.{Footprint}
use Rattle.kc_script_bundle.specs.Meaning.{thread_meaning, end_meaning}
use Rattle.kc_script_bundle.specs.declared.operation.Command.{Command}
use Rattle.kc_script_runs.specs.Labels.{label, labels}
use Rattle.kc_xt.specs.Commit.{Answers}
use Rattle.kc_model.specs.declared.footprint.TheConstants.{MOST}
use Rattle.kc_xt.specs.Meaning.{Meaning, limited}

-- a command of this thread in a script whose commands touch at most so many locations; location 0 is that of live threads
abbrev pub asked : ℕ → ℕ → Command → Meaning
asked limit thread c = limited limit (thread_meaning 0 thread c)

-- what this thread commits: its commands, and then its end
abbrev pub meanings : ℕ → ℕ → List Command → List Meaning
meanings limit thread cs = map (asked limit thread) cs ++ limited MOST (end_meaning 0) ∷ []

-- Wherever the record's reads stand, its answer is the meaning's, and its footprint is the one that is made there. It lies in a store of so many locations.
pub record IsAnswered (locations : ℕ) (m : Meaning) (r : Record) : Type 0 where
  pub answers : Answers m r.answer r.footprint
  pub within : IsBelow locations r.footprint

abbrev pub AreAnswered : ℕ → List Meaning → List Record → Type 0
AreAnswered locations [] [] = Unit {0}
AreAnswered locations (m ∷ ms) (r ∷ rs) = IsAnswered locations m r × AreAnswered locations ms rs
AreAnswered locations [] (r ∷ rs) = ⊥
AreAnswered locations (m ∷ ms) [] = ⊥

-- what a commit may make of its caller's own list: the caller, the meaning, the list before, the footprint that was filled, the list after
abbrev pub CommitGives : Type 1
CommitGives = ℕ → Meaning → List Entry → Footprint → List Entry → Type 0

-- one entry, with the next number from 1 on
abbrev pub GivesOne : CommitGives
GivesOne k m before f after = after ≡ before ++ record_entry k (length before + 1) f ∷ []

module _ (gives : CommitGives) where
  -- what commits of these meanings, one after another, make of their caller's own list, with the footprints of these records
  abbrev pub AreGiven : ℕ → List Meaning → List Entry → List Record → List Entry → Type 0
  AreGiven k [] before [] after = after ≡ before
  AreGiven k (m ∷ ms) before (r ∷ rs) after = (between : List Entry) × gives k m before r.footprint between × AreGiven k ms between rs after
  AreGiven k [] before (r ∷ rs) after = ⊥
  AreGiven k (m ∷ ms) before [] after = ⊥

  -- The records of a caller's thread on a store of so many locations: one for each command and then its end, each answered what it means, and the caller's part of the history is what its commits make of an empty list.
  pub record IsThreadBy (limit locations caller : ℕ) (history : List Entry) (commands : List Command) (records : List Record) : Type 0 where
    pub labelled : map label records ≡ labels (caller + 1) 1 commands
    pub answered : AreAnswered locations (meanings limit (caller + 1) commands) records
    pub committed : AreGiven caller (meanings limit (caller + 1) commands) [] records (of_caller caller history)

  -- each thread's records, of the callers from this one on
  abbrev pub AreRunBy : ℕ → ℕ → ℕ → List Entry → List (List Command) → List (List Record) → Type 0
  AreRunBy limit locations caller history [] [] = Unit {0}
  AreRunBy limit locations caller history (cs ∷ threads) (rs ∷ records) = IsThreadBy limit locations caller history cs rs × AreRunBy limit locations (suc caller) history threads records
  AreRunBy limit locations caller history [] (rs ∷ records) = ⊥
  AreRunBy limit locations caller history (cs ∷ threads) [] = ⊥

-- the same where each commit gives one entry: the footprints of the records are the callers' parts of the history, in order
abbrev pub AreRun : ℕ → ℕ → ℕ → List Entry → List (List Command) → List (List Record) → Type 0
AreRun limit locations caller history threads records = AreRunBy GivesOne limit locations caller history threads records
