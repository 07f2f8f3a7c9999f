-- What calls of standard input, of standard output and of the host's files do, and what a run over them says.
use Rattle.std.specs.Prelude.{◌≡◌, ℕ, ◌+◌, ◌-◌, ◌^◌, min, Bool, false, List, Option, None, Result, Ok, Err}
use Rattle.std.specs.Io.KnownBytes.{ReadConsumes, WriteAppends}
use Rattle.kc_model.specs.declared.outside.Failed.{Failed}
use Rattle.kc_model.specs.declared.outside.ShelfError.{ShelfError}
use Rattle.kc_model.specs.declared.outside.ShelfError.TheVariants as error
use Rattle.kc_top.specs.Statuses.{StatusSays}
use Rattle.kc_top.specs.declared.served.Served.{Served}
use Rattle.kc_top.specs.declared.status.Status.{Status}
use Rattle.kcas.specs.declared.ends.StdinSource.{StdinSource}
use Rattle.kcas.specs.declared.ends.StdoutSink.{StdoutSink}
use Rattle.kcas.specs.declared.dir_shelf.DirShelf.{DirShelf}

-- a call of read is passed on to the reader
abbrev pub PassesRead : {R : Type 0} → (R → Option (List ℕ)) → StdinSource R → List ℕ → Result ℕ Failed → List ℕ → StdinSource R → Type 0
PassesRead remaining before room result buf after = ReadConsumes (remaining before.input) (remaining after.input) result buf

-- a call of write is passed on to the writer
abbrev pub PassesWrite : {W : Type 0} → (W → Option (List ℕ)) → StdoutSink W → List ℕ → Result ℕ Failed → StdoutSink W → Type 0
PassesWrite contents before buf result after = WriteAppends (contents before.output) (contents after.output) result buf

-- a call of fetch leaves the host, and counts one fault where it failed
abbrev pub CountsFault : {H : Type 0} → DirShelf H → List ℕ → ℕ → Result (List ℕ) ShelfError → DirShelf H → Type 0
CountsFault before name limit (Err error.Failed) after = after ≡ record before { faults = min (before.faults + 1) (2 ^ 64 - 1) }
CountsFault before name limit (Err error.TooLong) after = after ≡ before
CountsFault before name limit (Err error.NoMemory) after = after ≡ before
CountsFault before name limit (Ok bytes) after = after ≡ before

-- the status is what the top call says of these words, and of the three ends as they were and as they are left, whatever was served
abbrev pub RunsOn : {R H W : Type 0} → (R → Option (List ℕ)) → (W → Option (List ℕ)) → List (List ℕ) → StdinSource R → StdinSource R → DirShelf H → DirShelf H → StdoutSink W → StdoutSink W → Status → Type 0
RunsOn {R} {H} {W} remaining contents words source source' shelf shelf' sink sink' status = (served : Served)
    × StatusSays (λ (s : StdinSource R). None) (λ (s : StdinSource R). s.faults) (PassesRead remaining) (λ (f : DirShelf H). None) (λ (f : DirShelf H). f.faults) (λ (f : DirShelf H). false) CountsFault (λ (k : StdoutSink W). None) (λ (k : StdoutSink W). k.faults) (PassesWrite contents)
    words source source' shelf shelf' sink sink' served status
