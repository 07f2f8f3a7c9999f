-- What is wrong with a text: the first of the tests that fails.
use Rattle.std.specs.Prelude.{◌≡◌, ◌≢◌, ℕ, ◌+◌, List, [], ◌∷◌, ◌++◌, Some, Contains, length, slice_get, slice_index_or}
use Rattle.kc_history.specs.Order.{IsCanonical, one_record_more}
use Rattle.kc_history.specs.Records.{record_at, footprint_at}
use Rattle.kc_history.specs.Text.{reply_line}
use Rattle.kc_history.specs.declared.record.Place.{Place}
use Rattle.kc_history.specs.declared.record.Record.{Record}
use Rattle.kc_model.specs.Store.{Store}
use Rattle.kc_script_bundle.specs.Script.{Script}
use Rattle.kc_script_bundle.specs.declared.operation.Command.{Command}
use Rattle.kc_script_runs.specs.Labels.{ThreadsHaveRecords, label, labels}
use Rattle.kc_script_runs.specs.Run.{IsCommit, IsRunText, Replays, meaning_at, opening_store}
use Rattle.kc_xt.specs.Commit.{run_on}
use Rattle.kc_xt.specs.Meaning.{Meaning, retried, values}
use Rattle.kc_check.specs.Forms.{IsFormed, IsMisformed}
use Rattle.kc_check.specs.Orders.{DiffersAt}
use Rattle.kc_check.specs.Shown.{UnlikeAt}
use Rattle.kc_check.specs.Parts.{Parts, said_at, reply_number, place_number, state_number}
use Rattle.kc_check.specs.declared.error.CheckError.{CheckError}
use Rattle.kc_check.specs.declared.error.CheckError.TheVariants as error
use Rattle.kc_check.specs.declared.error.CheckWhy.{CheckWhy}
use Rattle.kc_check.specs.declared.error.CheckWhy.TheVariants as why

-- each place is the next of its thread
abbrev pub InTurn : (ℕ → ℕ) → List Place → (ℕ → ℕ) → Type 0
InTurn n [] m = m ≡ n
InTurn n (p ∷ ps) m = (p.index ≡ n p.thread) × InTurn (one_record_more p.thread n) ps m

-- the record is of the command, or the end, at the place
abbrev pub IsLabelled : List (List Command) → Place → Record → Type 0
IsLabelled threads p r = slice_get (labels (1 + p.thread) 1 (slice_index_or threads p.thread [])) p.index ≡ Some (label r)

module _ (limit : ℕ) (threads : List (List Command)) (replies : List (List (List ℕ))) (first : Store) where
  -- These places have been replayed from the first store, so many of each thread: each was the next of its thread, and its record is its command's commit there, with the reply that its line says.
  pub record PlacesReplayed (places : List Place) (stand : ℕ → ℕ) (now : Store) (records : List (List Record)) : Type 0 where
    pub labelled : ThreadsHaveRecords 1 threads records
    pub turns : InTurn (λ _. 0) places stand
    pub replays : Replays limit threads records first places now
    pub said : (p : Place) → Contains places p → (r : Record) → record_at records p.thread p.index ≡ Some r → said_at replies p ≡ reply_line r

  -- it is not the next of its thread
  abbrev pub IsOutOfTurn : Place → (ℕ → ℕ) → Store → Type 0
  IsOutOfTurn p stand now = p.index ≢ stand p.thread

  -- it is, and its command waits there
  pub record HasToWait (p : Place) (stand : ℕ → ℕ) (now : Store) : Type 0 where
    pub turn : p.index ≡ stand p.thread
    pub meaning : Meaning
    pub means : meaning_at limit threads p.thread p.index ≡ Some meaning
    pub waits : (run_on meaning now).outcome ≡ retried

  -- it is, and its command's reply there is another one than its line says
  pub record RepliesElse (p : Place) (stand : ℕ → ℕ) (now : Store) : Type 0 where
    pub turn : p.index ≡ stand p.thread
    pub meaning : Meaning
    pub means : meaning_at limit threads p.thread p.index ≡ Some meaning
    pub commit : Record
    pub labelled : IsLabelled threads p commit
    pub commits : IsCommit meaning now commit
    pub differs : said_at replies p ≢ reply_line commit

  -- the first of the places that is wrong so, behind those that come
  pub record StopsAt (places : List Place) (Wrong : Place → (ℕ → ℕ) → Store → Type 0) (p : Place) (front : List Place) : Type 0 where
    pub back : List Place
    pub splits : places ≡ front ++ p ∷ back
    pub stand : ℕ → ℕ
    pub now : Store
    pub records : List (List Record)
    pub comes : PlacesReplayed front stand now records
    pub wrong : Wrong p stand now

module _ (s : Script) (parts : Parts) where
  -- all places come
  pub record ComesWhole (last : Store) (records : List (List Record)) : Type 0 where
    pub stand : ℕ → ℕ
    pub comes : PlacesReplayed s.limit s.threads parts.replies (opening_store s) parts.places stand last records

  -- the place at this index is the first that differs from the canonical order of the records
  pub record IsDisordered (index : ℕ) : Type 0 where
    pub last : Store
    pub records : List (List Record)
    pub whole : ComesWhole last records
    pub order : List Place
    pub canonical : IsCanonical (footprint_at records) order
    pub differs : DiffersAt parts.places order index

  -- the places are the canonical order, and the line of the state at this index is the first that doesn't show its object
  pub record ShowsElse (index : ℕ) : Type 0 where
    pub last : Store
    pub records : List (List Record)
    pub whole : ComesWhole last records
    pub canonical : IsCanonical (footprint_at records) parts.places
    pub unlike : UnlikeAt parts.state s.objects (values last) index

  -- where the parts have the form, the next test that fails, and at which line
  abbrev pub FailsIn : ℕ → CheckWhy → Type 0
  FailsIn line why.Form = ⊥
  FailsIn line why.Turn = (p : Place) × (front : List Place) × StopsAt s.limit s.threads parts.replies (opening_store s) parts.places (IsOutOfTurn s.limit s.threads parts.replies (opening_store s)) p front × (line ≡ place_number s.threads (length front))
  FailsIn line why.Waits = (p : Place) × (front : List Place) × StopsAt s.limit s.threads parts.replies (opening_store s) parts.places (HasToWait s.limit s.threads parts.replies (opening_store s)) p front × (line ≡ place_number s.threads (length front))
  FailsIn line why.Reply = (p : Place) × (front : List Place) × StopsAt s.limit s.threads parts.replies (opening_store s) parts.places (RepliesElse s.limit s.threads parts.replies (opening_store s)) p front × (line ≡ reply_number s.threads p)
  FailsIn line why.Order = (index : ℕ) × IsDisordered index × (line ≡ place_number s.threads index)
  FailsIn line why.State = (index : ℕ) × ShowsElse index × (line ≡ state_number s.threads index)

-- the text has a form, and fails by a later test
pub record FailsLater (s : Script) (text : List ℕ) (line : ℕ) (why : CheckWhy) : Type 0 where
  pub parts : Parts
  pub formed : IsFormed s text parts
  pub fails : FailsIn s parts line why

-- the first test that the text of a script fails, and the line where it does
abbrev pub CheckFails : Script → List ℕ → ℕ → CheckWhy → Type 0
CheckFails s text line why.Form = IsMisformed s text line
CheckFails s text line why = FailsLater s text line why

-- what a check answers is the first test that fails; want of memory says nothing
abbrev pub FailsFor : Script → List ℕ → CheckError → Type 0
FailsFor s text (error.Fault line w) = CheckFails s text line w
FailsFor s text error.NoMemory = Unit {0}

-- a fault, and not want of memory
abbrev pub IsFault : CheckError → Type 0
IsFault (error.Fault line w) = Unit {0}
IsFault error.NoMemory = ⊥

-- the text is that of some records that are a run of the script
pub record IsLegalText (s : Script) (text : List ℕ) : Type 0 where
  pub records : List (List Record)
  pub is : IsRunText s records text
