-- Where a command can't but be done, or find no memory.
use Rattle.std.specs.Prelude.{◌≡◌, ℕ, ◌≤◌, All, List, ◌∷◌, Option, Some, None, drop, length}
use Rattle.kc_check.specs.declared.check.TheConstants.{MOST_TEXT}
use Rattle.kc_model.specs.Shelves.{HasEach, file_of}
use Rattle.kc_script.specs.Parts.{SpellsParts}
use Rattle.kc_script.specs.Spells.{Spells}
use Rattle.kc_script.specs.declared.parser.TheConstants.{MOST_BYTES}
use Rattle.kc_script_bundle.specs.Script.{Script}
use Rattle.kc_text_files.specs.Files.{files_fault}
use Rattle.kc_top.specs.Words.{bundle_name, picks_name, text_name, texts_name}
use Rattle.kc_top.specs.declared.command_line.Command.{Command}
use Rattle.kc_top.specs.declared.command_line.Command.TheVariants as command
use Rattle.kc_top.specs.declared.command_line.Origin.TheVariants as origin
use Rattle.kc_top.specs.declared.status.Status.{Status}
use Rattle.kc_top.specs.declared.status.Status.TheVariants as status

-- the statuses where nothing is wrong with what was asked: the command is done, or found no memory; and a check may find a text that is none of a run
abbrev pub IsInOrder : Command → Status → Type 0
IsInOrder command status.Done = Unit {0}
IsInOrder command status.NoMemory = Unit {0}
IsInOrder command.Check (status.Illegal line why) = Unit {0}
IsInOrder command other = ⊥

-- the source tells just bytes that spell a script, within the limit
pub record IsGivenScript (left : Option (List ℕ)) : Type 0 where
  pub bytes : List ℕ
  pub script : Script
  pub told : left ≡ Some bytes
  pub within : length bytes ≤ MOST_BYTES
  pub spells : Spells bytes script

-- the shelf tells a file for each of the names, each within the limit, and they spell a script
pub record AreGivenParts (files : Option (List (List ℕ × List ℕ))) (names : List (List ℕ)) : Type 0 where
  pub all : List (List ℕ × List ℕ)
  pub setup : List ℕ
  pub rest : List (List ℕ)
  pub script : Script
  pub told : files ≡ Some all
  pub has : HasEach files names (setup ∷ rest)
  pub within : All (λ (bytes : List ℕ). length bytes ≤ MOST_BYTES) (setup ∷ rest)
  pub spells : SpellsParts setup rest script

-- the shelf tells a bundle and a text of these names, each within its limit, and the bundle spells a script
pub record AreGivenBoth (files : Option (List (List ℕ × List ℕ))) (bundle_file text_file : List ℕ) : Type 0 where
  pub all : List (List ℕ × List ℕ)
  pub bundle : List ℕ
  pub text : List ℕ
  pub script : Script
  pub told : files ≡ Some all
  pub has_bundle : file_of all bundle_file ≡ Some bundle
  pub has_text : file_of all text_file ≡ Some text
  pub bundle_within : length bundle ≤ MOST_BYTES
  pub text_within : length text ≤ MOST_TEXT
  pub spells : Spells bundle script

-- the shelf tells two files of these names, each within the limit, and neither has a fault of a run on texts
pub record AreGivenTexts (files : Option (List (List ℕ × List ℕ))) (texts_file picks_file : List ℕ) : Type 0 where
  pub all : List (List ℕ × List ℕ)
  pub texts : List ℕ
  pub picks : List ℕ
  pub told : files ≡ Some all
  pub has_texts : file_of all texts_file ≡ Some texts
  pub has_picks : file_of all picks_file ≡ Some picks
  pub texts_within : length texts ≤ MOST_BYTES
  pub picks_within : length picks ≤ MOST_BYTES
  pub right : files_fault texts picks ≡ None

-- what the command reads is in order; a storm reads nothing
abbrev pub IsGiven : List (List ℕ) → Command → Option (List ℕ) → Option (List (List ℕ × List ℕ)) → Type 0
IsGiven words (command.Run origin.Source) left files = IsGivenScript left
IsGiven words (command.Run (origin.Files setup)) left files = AreGivenParts files (drop setup words)
IsGiven words (command.Run (origin.Storm n)) left files = Unit {0}
IsGiven words command.Check left files = AreGivenBoth files (bundle_name words) (text_name words)
IsGiven words command.Texts left files = AreGivenTexts files (texts_name words) (picks_name words)
