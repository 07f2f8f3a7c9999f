-- What a run on texts comes to.
use Rattle.std.specs.Prelude.{◌≡◌, ◌⊎◌, ◌<◌, ℕ, Bool, List, [], length, Option, Some, None, Result}
use Rattle.kc_model.specs.Outside.{Took, TookFront}
use Rattle.kc_model.specs.declared.outside.Failed.{Failed}
use Rattle.kc_model.specs.declared.outside.ShelfError.{ShelfError}
use Rattle.kc_script.specs.declared.parser.TheConstants.{MOST_BYTES}
use Rattle.kc_script_lines.specs.declared.fault.Why.{Why}
use Rattle.kc_text_files.specs.Files.{file_lines, files_fault, picks_in, written_of}
use Rattle.kc_text_run.specs.Picking.{WereReadByTwo}
use Rattle.kc_top.specs.Reading.{BothRefuse, FetchedBoth}
use Rattle.kc_top.specs.declared.served.Served.{Served}
use Rattle.kc_top.specs.declared.served.Served.TheVariants as serving
use Rattle.kc_top.specs.declared.status.Status.{Status}
use Rattle.kc_top.specs.declared.status.Status.TheVariants as status

-- Where there is a pick, what was served is the past of a lock-free store on which two callers read these picks of so many texts; and else nothing.
abbrev pub ServesPicks : (texts : ℕ) → List ℕ → Served → Type 0
ServesPicks texts picks serving.Nothing = picks ≡ []
ServesPicks texts picks (serving.Lock past) = ⊥
ServesPicks texts picks (serving.Kcas past) = (0 < length picks) × WereReadByTwo texts picks past

module _ {F : Type 0} (files : F → Option (List (List ℕ × List ℕ))) (faults : F → ℕ) (sure : F → Bool) (gives : F → List ℕ → ℕ → Result (List ℕ) ShelfError → F → Type 0) (texts_name picks_name : List ℕ) where
  -- both files were read, and neither has a fault
  pub record ReadsPicks (f f' : F) (texts picks : List ℕ) : Type 0 where
    pub both : FetchedBoth files faults sure gives MOST_BYTES texts_name picks_name f texts picks f'
    pub right : files_fault texts picks ≡ None

  -- likewise, and these are the texts of the one and the picks of the other
  pub record AreRead (f f' : F) (texts : List (List ℕ)) (picks : List ℕ) : Type 0 where
    pub texts_file : List ℕ
    pub picks_file : List ℕ
    pub reads : ReadsPicks f f' texts_file picks_file
    pub the_texts : texts ≡ file_lines texts_file
    pub the_picks : picks ≡ picks_in picks_file

  -- both were read, and this is their first fault
  pub record FindsFault (f f' : F) (part line : ℕ) (why : Why) : Type 0 where
    pub texts : List ℕ
    pub picks : List ℕ
    pub both : FetchedBoth files faults sure gives MOST_BYTES texts_name picks_name f texts picks f'
    pub wrong : files_fault texts picks ≡ Some (part, line, why)

  -- why no picks were read: a file was not read, or they have a fault; or memory ran out, also behind both files
  abbrev pub PicksRefuse : F → F → Status → Type 0
  PicksRefuse f f' status.ReadFault = BothRefuse files faults sure gives MOST_BYTES texts_name picks_name f f' status.ReadFault
  PicksRefuse f f' status.TooLong = BothRefuse files faults sure gives MOST_BYTES texts_name picks_name f f' status.TooLong
  PicksRefuse f f' (status.Script part line why) = FindsFault f f' part line why
  PicksRefuse f f' status.NoMemory = BothRefuse files faults sure gives MOST_BYTES texts_name picks_name f f' status.NoMemory ⊎ ((texts picks : List ℕ) × FetchedBoth files faults sure gives MOST_BYTES texts_name picks_name f texts picks f')
  PicksRefuse f f' other = ⊥

  -- both files were read, and what was served is of their picks; the picked texts were written so
  pub record WritesPicked {K : Type 0} (Written : K → List ℕ → K → Type 0) (f f' : F) (k k' : K) (served : Served) : Type 0 where
    pub texts : List ℕ
    pub picks : List ℕ
    pub reads : ReadsPicks f f' texts picks
    pub serves : ServesPicks (length (file_lines texts)) (picks_in picks) served
    pub shows : Written k (written_of texts picks) k'

  -- What a run on texts comes to: the sink took the picked texts, or a front of them; else nothing was written, and nothing served.
  module _ {K : Type 0} (written : K → Option (List ℕ)) (sink_faults : K → ℕ) (write_gives : K → List ℕ → Result ℕ Failed → K → Type 0) where
    abbrev pub PicksEnd : F → F → K → K → Served → Status → Type 0
    PicksEnd f f' k k' served status.Done = WritesPicked (Took written sink_faults write_gives) f f' k k' served
    PicksEnd f f' k k' served status.WriteFault = WritesPicked (TookFront written sink_faults write_gives) f f' k k' served
    PicksEnd f f' k k' served other = PicksRefuse f f' other × (k' ≡ k) × (served ≡ serving.Nothing)
