-- What the tests behind that of the form begin with, and how they end.
use Rattle.std.specs.Prelude.{◌≡◌, ◌<◌, ◌≤◌, ℕ, List, [], All, Vec, length, slice_index_or, get_or}
use Rattle.std.specs.Borrow.{Bor}
use Rattle.std.specs.Global.{Global}
use Rattle.kc_history.specs.RecordsValue.{RecordsValue}
use Rattle.kc_history.specs.declared.record.Place.{Place}
use Rattle.kc_model.specs.Store.{store_of}
use Rattle.kc_model.specs.declared.footprint.TheConstants.{MOST}
use Rattle.kc_model.specs.declared.plain_store.Cell.{Cell}
use Rattle.kc_script_bundle.specs.On.{CommandsAreOn}
use Rattle.kc_script_bundle.specs.Script.{Script, LiesInOrder, next_from}
use Rattle.kc_script_bundle.specs.declared.bundle.TheConstants.{MOST_COMMANDS, MOST_THREADS}
use Rattle.kc_script_bundle.specs.declared.operation.Command.{Command}
use Rattle.kc_script_runs.specs.Run.{opening_store}
use Rattle.kc_check.specs.Ages.{IsYoung}
use Rattle.kc_check.specs.Faults.{FailsIn}
use Rattle.kc_check.specs.Parts.{AsMany, IsThreadPlace, Parts, place_number, places_in, reply_number}
use Rattle.kc_check.specs.Replays.{AllCanAsk, HaveRoom}
use Rattle.kc_check.specs.Walks.{lines_in, now_of}
use Rattle.kc_check.specs.declared.error.CheckError.{CheckError}
use Rattle.kc_check.specs.declared.error.CheckError.TheVariants as error
use Rattle.kc_check.specs.declared.error.CheckWhy.{CheckWhy}
use Rattle.kc_check.specs.declared.error.CheckWhy.TheVariants as why

-- what is said by a text whose replies begin at these places
abbrev pub parts_of : List ℕ → List (Vec ℕ Global) → List Place → List (Bor (List ℕ)) → Parts
parts_of text replies places state = record { replies = lines_in text replies; places = places; state = now_of state }

-- the store has opened, and there is room for the footprint of each record
pub record IsReadyToReplay (s : Script) (threads : List (Vec Command Global)) (cells : List Cell) (records : List RecordsValue) : Type 0 where
  pub opens : store_of cells ≡ opening_store s
  pub size : length cells ≡ next_from 1 s.objects
  pub lies : LiesInOrder s
  pub few : length threads ≤ MOST_THREADS
  pub short : All (λ (v : Vec Command Global). length v.items ≤ MOST_COMMANDS) threads
  pub can : AllCanAsk (length cells) threads
  pub on : (t : ℕ) → CommandsAreOn s.objects (slice_index_or s.threads t [])
  pub limit : (0 < s.limit) × (s.limit ≤ MOST)
  pub room : HaveRoom s.limit 1 s.threads records
  pub empty : All (λ (v : RecordsValue). v.items ≡ []) records
  pub young : IsYoung 0 (store_of cells)

-- as many lines as the script wants, and places of its threads
pub record PartsAreSaid (s : Script) (parts : Parts) : Type 0 where
  pub many : AsMany s.threads parts.replies
  pub long : length parts.replies ≡ length s.threads
  pub places : All (IsThreadPlace s.threads) parts.places
  pub count : length parts.places ≡ places_in s.threads
  pub objects : length parts.state ≡ length s.objects
  pub state_few : length parts.state ≤ 65536

abbrev pub FailsWith : Script → Parts → CheckError → Type 0
FailsWith s parts (error.Fault line w) = FailsIn s parts line w
FailsWith s parts error.NoMemory = ⊥

abbrev pub no_place : Place
no_place = record { thread = 0; index = 0 }

-- the line of what stopped a walk
abbrev pub stop_number : List (List Command) → List Place → ℕ → CheckWhy → ℕ
stop_number threads places index why.Reply = reply_number threads (get_or places index no_place)
stop_number threads places index other = place_number threads index
