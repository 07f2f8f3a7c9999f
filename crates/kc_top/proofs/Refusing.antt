-- What follows of what a command read.
use Rattle.std.proofs.Common.{◌≡◌, ℕ, Bool, List, ◌∷◌, length, drop, Option, Some, Result, inl, inr, refl, sym, subst, arith}
use Rattle.std.proofs.lemmas.List.{take_all}
use Rattle.kc_model.specs.Shelves.{Fetched}
use Rattle.kc_model.specs.declared.outside.Failed.{Failed}
use Rattle.kc_model.specs.declared.outside.ShelfError.{ShelfError}
use Rattle.kc_script.specs.declared.parser.TheConstants.{MOST_BYTES}
use Rattle.kc_script_bundle.specs.Script.{Script}
use Rattle.kc_top.specs.declared.command_line.Command.{Command}
use Rattle.kc_top.specs.declared.command_line.Command.TheVariants as command
use Rattle.kc_top.specs.declared.command_line.Origin.{Origin}
use Rattle.kc_top.specs.declared.command_line.Origin.TheVariants as origin
use Rattle.kc_top.specs.Words.{bundle_name, command_of, picks_name, text_name, texts_name}
use Rattle.kc_top.specs.declared.served.Served.{Served}
use Rattle.kc_top.specs.declared.served.Served.TheVariants as serving
use Rattle.kc_top.specs.declared.status.Status.{Status}
use Rattle.kc_top.specs.declared.status.Status.TheVariants as status
use Rattle.kc_top.proofs.Bundles.{runnable, runnable_parts}
use Rattle.kc_top.proofs.Stormed.{storm_runnable}
use Rattle.kc_top.specs.Picking.{PicksEnd}
use Rattle.kc_top.specs.Reading.{ReadsScript, Refuses}
use Rattle.kc_top.specs.Runnable.{IsRunnable}
use Rattle.kc_top.specs.Statuses.{CheckEnds, IsItsScript, RunSays, StatusSays, SaysOf}

module _ {S F : Type 0} (left : S → Option (List ℕ)) (source_faults : S → ℕ) (read_gives : S → List ℕ → Result ℕ Failed → List ℕ → S → Type 0)
    (files : F → Option (List (List ℕ × List ℕ))) (shelf_faults : F → ℕ) (sure : F → Bool) (fetch_gives : F → List ℕ → ℕ → Result (List ℕ) ShelfError → F → Type 0) (words : List (List ℕ)) (s s' : S) (f f' : F) where
  -- it can be run
  pub read_runnable : (origin : Origin) (script : Script) → ReadsScript left source_faults read_gives files shelf_faults sure fetch_gives words origin s s' f f' script → IsRunnable script
  read_runnable origin.Source script r = runnable r.0.spells
  read_runnable (origin.Files setup) script r = runnable_parts r.0.spells
  read_runnable (origin.Storm n) script r = subst IsRunnable (sym r.0) (storm_runnable n)

  -- a storm's script is that of its number
  pub read_own : (origin : Origin) (script : Script) → ReadsScript left source_faults read_gives files shelf_faults sure fetch_gives words origin s s' f f' script → IsItsScript origin script
  read_own origin.Source script r = tt
  read_own (origin.Files setup) script r = tt
  read_own (origin.Storm n) script r = r.0

  -- memory may run out behind it
  pub read_starved : (origin : Origin) (script : Script) → ReadsScript left source_faults read_gives files shelf_faults sure fetch_gives words origin s s' f f' script → Refuses left source_faults read_gives files shelf_faults sure fetch_gives words origin s s' f f' status.NoMemory
  read_starved (origin.Storm n) script r = (refl, r.1, r.2)
  read_starved origin.Source script r = (inr (r.0.bytes, r.0.all), r.1)
  read_starved (origin.Files setup) script r = (
    inl (record {
      count = length (drop setup words);
      within = omega arith;
      files = r.0.setup ∷ r.0.rest;
      fetched = subst (λ (names : List (List ℕ)). Fetched files shelf_faults sure fetch_gives MOST_BYTES f names (r.0.setup ∷ r.0.rest) f') (sym (take_all (length (drop setup words)) (drop setup words) (omega arith))) r.0.all;
    }),
    r.1,
  )

  -- where no script was read, nothing is written or served
  pub refused_ends : {K : Type 0} (written : K → Option (List ℕ)) (sink_faults : K → ℕ) (write_gives : K → List ℕ → Result ℕ Failed → K → Type 0) (k k' : K) → k' ≡ k → (origin : Origin) (e : Status)
      → Refuses left source_faults read_gives files shelf_faults sure fetch_gives words origin s s' f f' e
      → RunSays left source_faults read_gives files shelf_faults sure fetch_gives written sink_faults write_gives words origin s s' f f' k k' serving.Nothing e
  refused_ends written sink_faults write_gives k k' same origin status.ReadFault r = record { refuses = r; unwritten = same; nothing = refl }
  refused_ends written sink_faults write_gives k k' same origin status.TooLong r = record { refuses = r; unwritten = same; nothing = refl }
  refused_ends written sink_faults write_gives k k' same origin status.NoMemory r = record { refuses = r; unwritten = same; nothing = refl }
  refused_ends written sink_faults write_gives k k' same origin (status.Script part line why) r = record { refuses = r; unwritten = same; nothing = refl }
  refused_ends written sink_faults write_gives k k' same origin.Source status.Usage r = absurd r.0
  refused_ends written sink_faults write_gives k k' same (origin.Files setup) status.Usage r = absurd r.0
  refused_ends written sink_faults write_gives k k' same (origin.Storm n) status.Usage r = absurd (cc (r.0))
  refused_ends written sink_faults write_gives k k' same origin.Source status.Done r = absurd r.0
  refused_ends written sink_faults write_gives k k' same (origin.Files setup) status.Done r = absurd r.0
  refused_ends written sink_faults write_gives k k' same (origin.Storm n) status.Done r = absurd (cc (r.0))
  refused_ends written sink_faults write_gives k k' same origin.Source status.WriteFault r = absurd r.0
  refused_ends written sink_faults write_gives k k' same (origin.Files setup) status.WriteFault r = absurd r.0
  refused_ends written sink_faults write_gives k k' same (origin.Storm n) status.WriteFault r = absurd (cc (r.0))
  refused_ends written sink_faults write_gives k k' same origin.Source (status.Illegal line why) r = absurd r.0
  refused_ends written sink_faults write_gives k k' same (origin.Files setup) (status.Illegal line why) r = absurd r.0
  refused_ends written sink_faults write_gives k k' same (origin.Storm n) (status.Illegal line why) r = absurd (cc (r.0))

  -- what a status says of a command, it says of words that ask for it
  pub says_of : {K : Type 0} (written : K → Option (List ℕ)) (sink_faults : K → ℕ) (write_gives : K → List ℕ → Result ℕ Failed → K → Type 0) (k k' : K) (served : Served) (command : Command) (e : Status) → command_of words ≡ Some command
      → SaysOf left source_faults read_gives files shelf_faults sure fetch_gives written sink_faults write_gives words command s s' f f' k k' served e
      → StatusSays left source_faults read_gives files shelf_faults sure fetch_gives written sink_faults write_gives words s s' f f' k k' served e
  says_of written sink_faults write_gives k k' served (command.Run origin) status.Usage asked h = absurd h
  says_of written sink_faults write_gives k k' served command.Check status.Usage asked h = absurd h.ends.0
  says_of written sink_faults write_gives k k' served command.Texts status.Usage asked h = absurd h.ends.0
  says_of written sink_faults write_gives k k' served command status.Done asked h = (command, asked, h)
  says_of written sink_faults write_gives k k' served command status.WriteFault asked h = (command, asked, h)
  says_of written sink_faults write_gives k k' served command status.ReadFault asked h = (command, asked, h)
  says_of written sink_faults write_gives k k' served command status.TooLong asked h = (command, asked, h)
  says_of written sink_faults write_gives k k' served command status.NoMemory asked h = (command, asked, h)
  says_of written sink_faults write_gives k k' served command (status.Script part line why) asked h = (command, asked, h)
  says_of written sink_faults write_gives k k' served command (status.Illegal line why) asked h = (command, asked, h)

  -- what a check of the two named files ends with, its status says of words that ask for it
  pub check_says : {K : Type 0} (written : K → Option (List ℕ)) (sink_faults : K → ℕ) (write_gives : K → List ℕ → Result ℕ Failed → K → Type 0) (k k' : K) (e : Status) (bundle text : List ℕ) → command_of words ≡ Some command.Check → s' ≡ s
      → bundle ≡ bundle_name words → text ≡ text_name words → CheckEnds written sink_faults write_gives files shelf_faults sure fetch_gives bundle text f f' k k' e
      → StatusSays left source_faults read_gives files shelf_faults sure fetch_gives written sink_faults write_gives words s s' f f' k k' serving.Nothing e
  check_says written sink_faults write_gives k k' e bundle text asked same one other ends =
      let first = subst (λ (x : List ℕ). CheckEnds written sink_faults write_gives files shelf_faults sure fetch_gives x text f f' k k' e) one ends in
      let both = subst (λ (x : List ℕ). CheckEnds written sink_faults write_gives files shelf_faults sure fetch_gives (bundle_name words) x f f' k k' e) other first in
      says_of written sink_faults write_gives k k' serving.Nothing command.Check e asked (record { ends = both; unread = same; nothing = refl })

  -- and likewise what a run on texts ends with
  pub texts_say : {K : Type 0} (written : K → Option (List ℕ)) (sink_faults : K → ℕ) (write_gives : K → List ℕ → Result ℕ Failed → K → Type 0) (k k' : K) (served : Served) (e : Status) (texts picks : List ℕ) → command_of words ≡ Some command.Texts → s' ≡ s
      → texts ≡ texts_name words → picks ≡ picks_name words → PicksEnd files shelf_faults sure fetch_gives texts picks written sink_faults write_gives f f' k k' served e
      → StatusSays left source_faults read_gives files shelf_faults sure fetch_gives written sink_faults write_gives words s s' f f' k k' served e
  texts_say written sink_faults write_gives k k' served e texts picks asked same one other ends =
      let first = subst (λ (x : List ℕ). PicksEnd files shelf_faults sure fetch_gives x picks written sink_faults write_gives f f' k k' served e) one ends in
      let both = subst (λ (x : List ℕ). PicksEnd files shelf_faults sure fetch_gives (texts_name words) x written sink_faults write_gives f f' k k' served e) other first in
      says_of written sink_faults write_gives k k' served command.Texts e asked (record { ends = both; unread = same })
