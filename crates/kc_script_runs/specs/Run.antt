-- What a run of a script is, and its text.
use Rattle.std.specs.Prelude.{◌≡◌, ℕ, ◌+◌, List, [], ◌∷◌, ◌++◌, Option, Some, codes, slice_get, slice_index_or}
use Rattle.kc_history.specs.Order.{IsCanonical}
use Rattle.kc_history.specs.Records.{record_at, footprint_at}
use Rattle.kc_history.specs.Text.{records_text}
use Rattle.kc_history.specs.declared.record.Place.{Place}
use Rattle.kc_history.specs.declared.record.Record.{Record}
use Rattle.kc_model.specs.Store.{Store, Finds, store_of, opened, after}
use Rattle.kc_script_bundle.specs.Script.{Script}
use Rattle.kc_script_bundle.specs.State.{Content, AllStand, opening_values, state_lines}
use Rattle.kc_script_bundle.specs.declared.operation.Command.{Command}
use Rattle.kc_script_runs.specs.Labels.{ThreadsHaveRecords}
use Rattle.kc_script_runs.specs.Threads.{meanings}
use Rattle.kc_xt.specs.Commit.{Answers}
use Rattle.kc_xt.specs.Meaning.{Meaning, values}

-- ---- what each record is

-- The record is the meaning's commit on the store: its reads stand there, and wherever they stand its answer is the meaning's, and its footprint is the one that is made there.
pub record IsCommit (m : Meaning) (s : Store) (r : Record) : Type 0 where
  pub finds : Finds r.footprint s
  pub answers : Answers m r.answer r.footprint

-- what the thread at this place commits there; threads are numbered from 1 on
abbrev pub meaning_at : ℕ → List (List Command) → ℕ → ℕ → Option Meaning
meaning_at limit threads thread index = slice_get (meanings limit (thread + 1) (slice_index_or threads thread [])) index

-- replayed in this order from a store, each record is its command's commit there
abbrev pub Replays : ℕ → List (List Command) → List (List Record) → Store → List Place → Store → Type 0
Replays limit threads records s [] e = e ≡ s
Replays limit threads records s (p ∷ ps) e = (m : Meaning) × (r : Record) × (meaning_at limit threads p.thread p.index ≡ Some m) × (record_at records p.thread p.index ≡ Some r)
    × IsCommit m s r × Replays limit threads records (after r.footprint s) ps e

-- the store with which a script opens
abbrev pub opening_store : Script → Store
opening_store script = store_of (opened (opening_values script))

-- The records, in canonical order, are one legal history of the plain store, from the script's opening store to the last one: each thread's commands
-- stand in it once, in its order, and each is answered its value at its place.
pub record IsScriptRun (script : Script) (records : List (List Record)) (order : List Place) (last : Store) : Type 0 where
  pub threads : ThreadsHaveRecords 1 script.threads records
  pub canonical : IsCanonical (footprint_at records) order
  pub replays : Replays script.limit script.threads records (opening_store script) order last

-- ---- its text

-- the replies by thread, the records in canonical order, and what the objects hold at last
abbrev pub run_text : Script → List (List Record) → List Place → List Content → List ℕ
run_text script records order contents = records_text records order ++ codes "state\n" ++ state_lines script.objects contents

-- the records are a run of the script, and this is its text
pub record IsRunText (script : Script) (records : List (List Record)) (text : List ℕ) : Type 0 where
  pub order : List Place
  pub last : Store
  pub contents : List Content
  pub run : IsScriptRun script records order last
  pub stand : AllStand script.objects (values last) contents
  pub spelled : text ≡ run_text script records order contents
