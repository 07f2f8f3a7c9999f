-- What a command reads.
use Rattle.std.specs.Prelude.{◌≡◌, ◌⊎◌, ℕ, ◌≤◌, Bool, List, ◌∷◌, drop, length, Option, Result, Ok}
use Rattle.kc_model.specs.Outside.{CameWhole, CamePast, CameSome, CameFront}
use Rattle.kc_model.specs.Shelves.{Fetched, FetchFails, FetchPasses, FetchStarves, FetchedUntil, FetchedPart, Has}
use Rattle.kc_model.specs.declared.outside.Failed.{Failed}
use Rattle.kc_model.specs.declared.outside.ShelfError.{ShelfError}
use Rattle.kc_script_bundle.specs.Script.{Script}
use Rattle.kc_script_lines.specs.declared.fault.ScriptError.TheVariants as error
use Rattle.kc_script.specs.declared.part_error.PartError.TheVariants as part_error
use Rattle.kc_script.specs.Parts.{SpellsParts, PartsRefused}
use Rattle.kc_script.specs.Refused.{Refused}
use Rattle.kc_script.specs.Spells.{Spells}
use Rattle.kc_script.specs.declared.parser.TheConstants.{MOST_BYTES}
use Rattle.kc_script_storm.specs.Storm.{storm_script}
use Rattle.kc_top.specs.declared.command_line.Origin.{Origin}
use Rattle.kc_top.specs.declared.command_line.Origin.TheVariants as origin
use Rattle.kc_top.specs.declared.status.Status.{Status}
use Rattle.kc_top.specs.declared.status.Status.TheVariants as status

-- ---- the source

module _ {S : Type 0} (left : S → Option (List ℕ)) (faults : S → ℕ) (gives : S → List ℕ → Result ℕ Failed → List ℕ → S → Type 0) where
  -- the source was read to its end, and these bytes came, no more than a script may have
  pub record ReadsAll (s : S) (bytes : List ℕ) (s' : S) : Type 0 where
    pub came : CameWhole left faults gives s bytes s'
    pub within : length bytes ≤ MOST_BYTES

  -- what came spells this script
  pub record SourceSpells (s s' : S) (script : Script) : Type 0 where
    pub bytes : List ℕ
    pub all : ReadsAll s bytes s'
    pub spells : Spells bytes script

  -- what came spells no script
  pub record SourceSpellsNone (s s' : S) (line : ℕ) (why : _) : Type 0 where
    pub bytes : List ℕ
    pub all : ReadsAll s bytes s'
    pub refused : Refused bytes (error.Fault line why)

  -- why the source gave no script: it failed, it had too many bytes, they spell none; or memory ran out, behind some bytes or all
  abbrev pub SourceRefuses : S → S → Status → Type 0
  SourceRefuses s s' status.ReadFault = CameFront left faults gives MOST_BYTES s s'
  SourceRefuses s s' status.TooLong = CamePast left faults gives MOST_BYTES s s'
  SourceRefuses s s' (status.Script part line why) = (part ≡ 0) × SourceSpellsNone s s' line why
  SourceRefuses s s' status.NoMemory = CameSome left faults gives MOST_BYTES s s' ⊎ ((bytes : List ℕ) × ReadsAll s bytes s')
  SourceRefuses s s' status.Usage = ⊥
  SourceRefuses s s' status.WriteFault = ⊥
  SourceRefuses s s' status.Done = ⊥
  SourceRefuses s s' (status.Illegal line why) = ⊥

-- ---- files

module _ {F : Type 0} (files : F → Option (List (List ℕ × List ℕ))) (faults : F → ℕ) (sure : F → Bool) (gives : F → List ℕ → ℕ → Result (List ℕ) ShelfError → F → Type 0) where
  -- the files of these names spell this script: the first is its setup
  pub record FilesSpell (names : List (List ℕ)) (f f' : F) (script : Script) : Type 0 where
    pub setup : List ℕ
    pub rest : List (List ℕ)
    pub all : Fetched files faults sure gives MOST_BYTES f names (setup ∷ rest) f'
    pub spells : SpellsParts setup rest script

  -- they spell no script
  pub record FilesSpellNone (names : List (List ℕ)) (f f' : F) (part line : ℕ) (why : _) : Type 0 where
    pub setup : List ℕ
    pub rest : List (List ℕ)
    pub all : Fetched files faults sure gives MOST_BYTES f names (setup ∷ rest) f'
    pub refused : PartsRefused setup rest (part_error.Fault part line why)

  -- why the files gave no script: a fetch failed, a file is too long, they spell none; or memory ran out, behind some files or all
  abbrev pub FilesRefuse : List (List ℕ) → F → F → Status → Type 0
  FilesRefuse names f f' status.ReadFault = FetchedUntil files faults sure gives MOST_BYTES (FetchFails files faults sure gives MOST_BYTES) f names f'
  FilesRefuse names f f' status.TooLong = FetchedUntil files faults sure gives MOST_BYTES (FetchPasses files faults sure gives MOST_BYTES) f names f'
  FilesRefuse names f f' (status.Script part line why) = FilesSpellNone names f f' part line why
  FilesRefuse names f f' status.NoMemory = FetchedPart files faults sure gives MOST_BYTES f names f'
  FilesRefuse names f f' status.Usage = ⊥
  FilesRefuse names f f' status.WriteFault = ⊥
  FilesRefuse names f f' status.Done = ⊥
  FilesRefuse names f f' (status.Illegal line why) = ⊥

  -- one call fetched the file of this name, whole, and it is no longer than its limit
  pub record FetchedFile (limit : ℕ) (f : F) (name bytes : List ℕ) (f' : F) : Type 0 where
    pub gave : gives f name limit (Ok bytes) f'
    pub has : Has (files f) name bytes
    pub within : length bytes ≤ limit
    pub kept : files f' ≡ files f
    pub same : sure f' ≡ sure f
    pub faultless : faults f' ≡ faults f

  -- why one call gave no file: it failed, the file is longer than its limit, or memory ran out
  abbrev pub FileRefuses : ℕ → F → List ℕ → F → Status → Type 0
  FileRefuses limit f name f' status.ReadFault = FetchFails files faults sure gives limit f name f'
  FileRefuses limit f name f' status.TooLong = FetchPasses files faults sure gives limit f name f'
  FileRefuses limit f name f' status.NoMemory = FetchStarves files faults sure gives limit f name f'
  FileRefuses limit f name f' other = ⊥

  -- two files of these names were fetched one after the other: the first has the limit of a bundle, the second this one
  pub record FetchedBoth (limit : ℕ) (first_name second_name : List ℕ) (f : F) (one other : List ℕ) (f' : F) : Type 0 where
    pub between : F
    pub first : FetchedFile MOST_BYTES f first_name one between
    pub second : FetchedFile limit between second_name other f'

  -- why they were not: the first was refused, or it came and the second was
  abbrev pub BothRefuse : (limit : ℕ) → List ℕ → List ℕ → F → F → Status → Type 0
  BothRefuse limit first_name second_name f f' status = FileRefuses MOST_BYTES f first_name f' status
      ⊎ ((between : F) × (one : List ℕ) × FetchedFile MOST_BYTES f first_name one between × FileRefuses limit between second_name f' status)

-- ---- a script, by where it comes from

module _ {S F : Type 0} (left : S → Option (List ℕ)) (source_faults : S → ℕ) (read_gives : S → List ℕ → Result ℕ Failed → List ℕ → S → Type 0)
    (files : F → Option (List (List ℕ × List ℕ))) (shelf_faults : F → ℕ) (sure : F → Bool) (fetch_gives : F → List ℕ → ℕ → Result (List ℕ) ShelfError → F → Type 0) (words : List (List ℕ)) where
  -- what is read spells this script, and the rest of the outside is as it was; a storm reads nothing
  abbrev pub ReadsScript : Origin → S → S → F → F → Script → Type 0
  ReadsScript origin.Source s s' f f' script = SourceSpells left source_faults read_gives s s' script × (f' ≡ f)
  ReadsScript (origin.Storm n) s s' f f' script = (script ≡ storm_script n) × (s' ≡ s) × (f' ≡ f)
  ReadsScript (origin.Files setup) s s' f f' script = FilesSpell files shelf_faults sure fetch_gives (drop setup words) f f' script × (s' ≡ s)

  -- why it gave no script
  abbrev pub Refuses : Origin → S → S → F → F → Status → Type 0
  Refuses origin.Source s s' f f' status = SourceRefuses left source_faults read_gives s s' status × (f' ≡ f)
  Refuses (origin.Storm n) s s' f f' end = (end ≡ status.NoMemory) × (s' ≡ s) × (f' ≡ f)
  Refuses (origin.Files setup) s s' f f' status = FilesRefuse files shelf_faults sure fetch_gives (drop setup words) f f' status × (s' ≡ s)
