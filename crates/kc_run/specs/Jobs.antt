-- What a thread's job is before and after its run.
use Rattle.std.specs.Prelude.{◌≡◌, ℕ, zero, suc, ◌+◌, ◌≤◌, List, [], ◌∷◌, length, map}
use Rattle.std.specs.Global.{Vec}
use Rattle.kc_history.specs.RecordsValue.{RecordsValue}
use Rattle.kc_history.specs.declared.record.Record.{Record}
use Rattle.kc_model.specs.declared.footprint.Entry.{Entry}
use Rattle.kc_run.specs.declared.job.Job.{Job}
use Rattle.kc_script_bundle.specs.declared.operation.Command.{Command}
use Rattle.kc_script_runs.specs.Labels.{label, labels}
use Rattle.kc_script_runs.specs.Threads.{CommitGives, AreAnswered, AreGiven, meanings}

-- the commands of the thread at this place
abbrev pub row_at : List (Vec Command) → ℕ → List Command
row_at [] i = []
row_at (v ∷ vs) zero = v.items
row_at (v ∷ vs) (suc i) = row_at vs i

-- no record, and room for one for each of a thread's commands and its end, of at most so many locations
abbrev pub empty_records : ℕ → List Command → RecordsValue
empty_records limit commands = record { items = []; spare = length commands + 1; bare = 0; limit = limit }

-- for each thread
abbrev pub Rooms : ℕ → List (Vec Command) → List RecordsValue → Type 0
Rooms limit [] [] = Unit {0}
Rooms limit [] (r ∷ rs) = ⊥
Rooms limit (v ∷ vs) [] = ⊥
Rooms limit (v ∷ vs) (r ∷ rs) = (r ≡ empty_records limit v.items) × Rooms limit vs rs

module _ {P : Type 0} where
  abbrev pub job : P → RecordsValue → Job P
  job p r = record { pass = p; records = r }

  abbrev pub paired : List P → List RecordsValue → List (Job P)
  paired [] rs = []
  paired (p ∷ ps) [] = []
  paired (p ∷ ps) (r ∷ rs) = job p r ∷ paired ps rs

  abbrev pub job_pass : Job P → P
  job_pass j = j.pass

  abbrev pub list_of : Job P → RecordsValue
  list_of j = j.records

module _ {S P : Type 0} (belongs : S → P → Type 0) (number left : P → ℕ) (own : P → List Entry) where
  -- a pass that may commit the commands of its thread and its end, and has made no commit
  pub record PassMayRun (store : S) (k : ℕ) (commands : List Command) (p : P) : Type 0 where
    pub belongs_to : belongs store p
    pub number_is : number p ≡ k
    pub share : length commands + 1 ≤ left p
    pub fresh : own p ≡ []

  -- each pass is that of the thread at its place, from this caller on
  abbrev pub AllMayRun : S → ℕ → List (Vec Command) → List P → Type 0
  AllMayRun store k [] [] = Unit {0}
  AllMayRun store k [] (p ∷ ps) = ⊥
  AllMayRun store k (v ∷ vs) [] = ⊥
  AllMayRun store k (v ∷ vs) (p ∷ ps) = PassMayRun store k v.items p × AllMayRun store (suc k) vs ps

  -- the job has its pass, and room for a record for each command and its end
  pub record JobReady (limit : ℕ) (store : S) (k : ℕ) (commands : List Command) (j : Job P) : Type 0 where
    pub may : PassMayRun store k commands j.pass
    pub room : j.records ≡ empty_records limit commands

module _ {S P : Type 0} (limit : ℕ) (gives : CommitGives) (belongs : S → P → Type 0) (number : P → ℕ) (own : P → List Entry) (opening : S → List ℕ) where
  -- the pass's own list is what the commits of these records gave, which are those of the commands and the end
  pub record PassRan (store : S) (k : ℕ) (commands : List Command) (p : P) (records : List Record) : Type 0 where
    pub belongs_to : belongs store p
    pub number_is : number p ≡ k
    pub labelled : map label records ≡ labels (k + 1) 1 commands
    pub answered : AreAnswered (length (opening store)) (meanings limit (k + 1) commands) records
    pub own_is : AreGiven gives k (meanings limit (k + 1) commands) [] records (own p)

  abbrev pub JobRan : S → ℕ → List Command → Job P → Type 0
  JobRan store k commands j = PassRan store k commands j.pass j.records.items
