-- What a check of a text comes to.
use Rattle.std.specs.Prelude.{◌≡◌, ◌⊎◌, ℕ, Bool, List, Option, Result}
use Rattle.kc_check.specs.Faults.{CheckFails, IsLegalText}
use Rattle.kc_check.specs.declared.check.TheConstants.{MOST_TEXT}
use Rattle.kc_check.specs.declared.error.CheckWhy.{CheckWhy}
use Rattle.kc_model.specs.declared.outside.ShelfError.{ShelfError}
use Rattle.kc_script.specs.Refused.{Refused}
use Rattle.kc_script.specs.Spells.{Spells}
use Rattle.kc_script_bundle.specs.Script.{Script}
use Rattle.kc_script_lines.specs.declared.fault.ScriptError.TheVariants as error
use Rattle.kc_script_lines.specs.declared.fault.Why.{Why}
use Rattle.kc_top.specs.Reading.{BothRefuse, FetchedBoth}
use Rattle.kc_top.specs.declared.status.Status.{Status}
use Rattle.kc_top.specs.declared.status.Status.TheVariants as status

module _ {F : Type 0} (files : F → Option (List (List ℕ × List ℕ))) (faults : F → ℕ) (sure : F → Bool) (gives : F → List ℕ → ℕ → Result (List ℕ) ShelfError → F → Type 0) (bundle_name text_name : List ℕ) where
  -- both files were read, the first spells this script, and the second is this text
  pub record ReadsBothFiles (f f' : F) (script : Script) (text : List ℕ) : Type 0 where
    pub bundle : List ℕ
    pub both : FetchedBoth files faults sure gives MOST_TEXT bundle_name text_name f bundle text f'
    pub spells : Spells bundle script

  -- both were read, and the first spells no script
  pub record ReadsNoBundle (f f' : F) (line : ℕ) (why : Why) : Type 0 where
    pub bundle : List ℕ
    pub text : List ℕ
    pub both : FetchedBoth files faults sure gives MOST_TEXT bundle_name text_name f bundle text f'
    pub refused : Refused bundle (error.Fault line why)

  -- the text is that of a run of the script
  pub record IsAccepted (f f' : F) : Type 0 where
    pub script : Script
    pub text : List ℕ
    pub reads : ReadsBothFiles f f' script text
    pub legal : IsLegalText script text

  -- this is the first test that the text fails, at this line, and it is that of no run of the script
  pub record IsRejected (f f' : F) (line : ℕ) (why : CheckWhy) : Type 0 where
    pub script : Script
    pub text : List ℕ
    pub reads : ReadsBothFiles f f' script text
    pub fails : CheckFails script text line why
    pub refuted : IsLegalText script text → ⊥

  -- why no text was accepted: a file was not read, the first spells no script, the text fails a test; or memory ran out, also behind both files
  abbrev pub CheckRefuses : F → F → Status → Type 0
  CheckRefuses f f' status.ReadFault = BothRefuse files faults sure gives MOST_TEXT bundle_name text_name f f' status.ReadFault
  CheckRefuses f f' status.TooLong = BothRefuse files faults sure gives MOST_TEXT bundle_name text_name f f' status.TooLong
  CheckRefuses f f' (status.Script part line why) = (part ≡ 0) × ReadsNoBundle f f' line why
  CheckRefuses f f' (status.Illegal line why) = IsRejected f f' line why
  CheckRefuses f f' status.NoMemory = BothRefuse files faults sure gives MOST_TEXT bundle_name text_name f f' status.NoMemory ⊎ ((bundle text : List ℕ) × FetchedBoth files faults sure gives MOST_TEXT bundle_name text_name f bundle text f')
  CheckRefuses f f' other = ⊥
