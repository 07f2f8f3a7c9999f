-- Which records a run has.
use Rattle.std.specs.Prelude.{◌≡◌, ℕ, ◌+◌, List, [], ◌∷◌, map}
use Rattle.kc_history.specs.declared.record.Mark.{Mark}
use Rattle.kc_script_bundle.specs.declared.operation.Command.{Command}
use Rattle.kc_history.specs.declared.record.Mark.TheVariants as mark
use Rattle.kc_history.specs.declared.record.Record.{Record}

pub record Label : Type 0 where
  pub thread : ℕ
  pub mark : Mark

abbrev pub label : Record → Label
label r = record { thread = r.thread; mark = r.mark }

-- one for each command, numbered from here on, and then the end
abbrev pub labels : ℕ → ℕ → List Command → List Label
labels thread number [] = record { thread = thread; mark = mark.End } ∷ []
labels thread number (c ∷ cs) = record { thread = thread; mark = mark.Command number } ∷ labels thread (number + 1) cs

-- the threads, numbered from here on, have one record for each command, in order, and then their end
abbrev pub ThreadsHaveRecords : ℕ → List (List Command) → List (List Record) → Type 0
ThreadsHaveRecords thread [] [] = Unit {0}
ThreadsHaveRecords thread (cs ∷ threads) (rs ∷ records) = (map label rs ≡ labels thread 1 cs) × ThreadsHaveRecords (thread + 1) threads records
ThreadsHaveRecords thread [] (rs ∷ records) = ⊥
ThreadsHaveRecords thread (cs ∷ threads) [] = ⊥
