-- What each status of the top call says.
use Rattle.std.specs.Prelude.{◌≡◌, ℕ, Bool, List, Option, Some, None, Result, Ok, Err, codes}
use Rattle.kc_history.specs.declared.record.Record.{Record}
use Rattle.kc_model.specs.Outside.{Took, TookFront}
use Rattle.kc_model.specs.declared.outside.Failed.{Failed}
use Rattle.kc_model.specs.declared.outside.ShelfError.{ShelfError}
use Rattle.kc_script_bundle.specs.Script.{Script}
use Rattle.kc_script_runs.specs.Run.{IsRunText}
use Rattle.kc_script_storm.specs.Storm.{storm_script}
use Rattle.kc_script_storm.specs.Summary.{IsSummary}
use Rattle.kc_top.specs.declared.command_line.Command.{Command}
use Rattle.kc_top.specs.declared.command_line.Command.TheVariants as command
use Rattle.kc_top.specs.declared.command_line.Origin.{Origin}
use Rattle.kc_top.specs.declared.command_line.Origin.TheVariants as origin
use Rattle.kc_top.specs.declared.command_line.StoreName.{StoreName}
use Rattle.kc_top.specs.declared.served.Served.{Served}
use Rattle.kc_top.specs.declared.served.Served.TheVariants as serving
use Rattle.kc_top.specs.declared.status.Status.{Status}
use Rattle.kc_top.specs.declared.status.Status.TheVariants as status
use Rattle.kc_top.specs.Checking.{CheckRefuses, IsAccepted}
use Rattle.kc_top.specs.Reading.{ReadsScript, Refuses}
use Rattle.kc_top.specs.Served.{IsServed}
use Rattle.kc_top.specs.Picking.{PicksEnd}
use Rattle.kc_top.specs.Words.{bundle_name, command_of, picks_name, store_named, text_name, texts_name}

-- a storm's script is that of its number
abbrev pub IsItsScript : Origin → Script → Type 0
IsItsScript origin.Source script = Unit {0}
IsItsScript (origin.Files setup) script = Unit {0}
IsItsScript (origin.Storm n) script = script ≡ storm_script n

-- what is written of a run of the script: of a storm its summary, and else its text
abbrev pub IsShown : Origin → Script → List (List Record) → List ℕ → Type 0
IsShown origin.Source script records text = IsRunText script records text
IsShown (origin.Files setup) script records text = IsRunText script records text
IsShown (origin.Storm n) script records text = IsSummary n records text

module _ {K : Type 0} (written : K → Option (List ℕ)) (faults : K → ℕ) (gives : K → List ℕ → Result ℕ Failed → K → Type 0) where
  -- the sink took such a text, all of it, and no call failed
  pub record Writes (IsSuch : List ℕ → Type 0) (k k' : K) : Type 0 where
    pub text : List ℕ
    pub such : IsSuch text
    pub took : Took written faults gives k text k'

  -- the sink took a front of such a text; then a call failed, and it was the last
  pub record WritesPart (IsSuch : List ℕ → Type 0) (k k' : K) : Type 0 where
    pub text : List ℕ
    pub such : IsSuch text
    pub front : TookFront written faults gives k text k'

  -- the sink took what is written of a run of the script, and what was served is this run's, on the store of this name
  pub record ShowsRun (store : StoreName) (origin : Origin) (script : Script) (served : Served) (k k' : K) : Type 0 where
    pub records : List (List Record)
    pub serves : IsServed store script records served
    pub shows : Writes (IsShown origin script records) k k'

  -- the sink took a front of what is written of a run of the script, and what was served is this run's, on the store of this name
  pub record ShowsPart (store : StoreName) (origin : Origin) (script : Script) (served : Served) (k k' : K) : Type 0 where
    pub records : List (List Record)
    pub serves : IsServed store script records served
    pub shows : WritesPart (IsShown origin script records) k k'

  -- What a check comes to: the text is accepted, and the sink took `legal`, or a front of it; else nothing was written.
  abbrev pub CheckEnds : {F : Type 0} → (F → Option (List (List ℕ × List ℕ))) → (F → ℕ) → (F → Bool) → (F → List ℕ → ℕ → Result (List ℕ) ShelfError → F → Type 0) → List ℕ → List ℕ → F → F → K → K → Status → Type 0
  CheckEnds files shelf_faults sure fetch_gives bundle text f f' k k' status.Done = IsAccepted files shelf_faults sure fetch_gives bundle text f f' × Took written faults gives k (codes "legal\n") k'
  CheckEnds files shelf_faults sure fetch_gives bundle text f f' k k' status.WriteFault = IsAccepted files shelf_faults sure fetch_gives bundle text f f' × TookFront written faults gives k (codes "legal\n") k'
  CheckEnds files shelf_faults sure fetch_gives bundle text f f' k k' other = CheckRefuses files shelf_faults sure fetch_gives bundle text f f' other × (k' ≡ k)

  -- what comes of a run that is shown, or whose showing fails
  abbrev pub ShowsOrFails : StoreName → Origin → Script → Served → K → K → Result (Unit {0}) Failed → Type 0
  ShowsOrFails store origin script served k k' (Ok u) = ShowsRun store origin script served k k'
  ShowsOrFails store origin script served k k' (Err e) = ShowsPart store origin script served k k'

module _ {S F K : Type 0} (left : S → Option (List ℕ)) (source_faults : S → ℕ) (read_gives : S → List ℕ → Result ℕ Failed → List ℕ → S → Type 0)
    (files : F → Option (List (List ℕ × List ℕ))) (shelf_faults : F → ℕ) (sure : F → Bool) (fetch_gives : F → List ℕ → ℕ → Result (List ℕ) ShelfError → F → Type 0)
    (written : K → Option (List ℕ)) (sink_faults : K → ℕ) (write_gives : K → List ℕ → Result ℕ Failed → K → Type 0) (words : List (List ℕ)) where
  -- a script was read, and run on the store that the words name
  pub record ScriptRan (Shown : StoreName → Origin → Script → Served → K → K → Type 0) (origin : Origin) (s s' : S) (f f' : F) (k k' : K) (served : Served) : Type 0 where
    pub script : Script
    pub reads : ReadsScript left source_faults read_gives files shelf_faults sure fetch_gives words origin s s' f f' script
    pub shows : Shown (store_named words) origin script served k k'

  -- no script was read, or no memory was found to run it; nothing was written, and nothing served
  pub record RanNone (origin : Origin) (s s' : S) (f f' : F) (k k' : K) (served : Served) (status : Status) : Type 0 where
    pub refuses : Refuses left source_faults read_gives files shelf_faults sure fetch_gives words origin s s' f f' status
    pub unwritten : k' ≡ k
    pub nothing : served ≡ serving.Nothing

  -- what a status says of a script that was to be run
  abbrev pub RunSays : Origin → S → S → F → F → K → K → Served → Status → Type 0
  RunSays origin s s' f f' k k' served status.Done = ScriptRan (ShowsRun written sink_faults write_gives) origin s s' f f' k k' served
  RunSays origin s s' f f' k k' served status.WriteFault = ScriptRan (ShowsPart written sink_faults write_gives) origin s s' f f' k k' served
  RunSays origin s s' f f' k k' served status.ReadFault = RanNone origin s s' f f' k k' served status.ReadFault
  RunSays origin s s' f f' k k' served status.TooLong = RanNone origin s s' f f' k k' served status.TooLong
  RunSays origin s s' f f' k k' served status.NoMemory = RanNone origin s s' f f' k k' served status.NoMemory
  RunSays origin s s' f f' k k' served (status.Script part line why) = RanNone origin s s' f f' k k' served (status.Script part line why)
  RunSays origin s s' f f' k k' served status.Usage = ⊥
  RunSays origin s s' f f' k k' served (status.Illegal line why) = ⊥

  -- what a status says of a text that was to be checked: the source is as it was, and nothing was served
  pub record CheckSays (s s' : S) (f f' : F) (k k' : K) (served : Served) (status : Status) : Type 0 where
    pub ends : CheckEnds written sink_faults write_gives files shelf_faults sure fetch_gives (bundle_name words) (text_name words) f f' k k' status
    pub unread : s' ≡ s
    pub nothing : served ≡ serving.Nothing

  -- what a status says of texts of which some were to be picked: the source is as it was
  pub record TextsSay (s s' : S) (f f' : F) (k k' : K) (served : Served) (status : Status) : Type 0 where
    pub ends : PicksEnd files shelf_faults sure fetch_gives (texts_name words) (picks_name words) written sink_faults write_gives f f' k k' served status
    pub unread : s' ≡ s

  -- what a status says of a command
  abbrev pub SaysOf : Command → S → S → F → F → K → K → Served → Status → Type 0
  SaysOf (command.Run origin) s s' f f' k k' served status = RunSays origin s s' f f' k k' served status
  SaysOf command.Check s s' f f' k k' served status = CheckSays s s' f f' k k' served status
  SaysOf command.Texts s s' f f' k k' served status = TextsSay s s' f f' k k' served status

  -- What a status says of the words, of the source, the shelf and the sink before and behind the call, and of what was served.
  -- It is Usage exactly where the words are no command, and then all is as it was.
  abbrev pub StatusSays : S → S → F → F → K → K → Served → Status → Type 0
  StatusSays s s' f f' k k' served status.Usage = (command_of words ≡ None) × (s' ≡ s) × (f' ≡ f) × (k' ≡ k) × (served ≡ serving.Nothing)
  StatusSays s s' f f' k k' served status = (command : Command) × (command_of words ≡ Some command) × SaysOf command s s' f f' k k' served status
