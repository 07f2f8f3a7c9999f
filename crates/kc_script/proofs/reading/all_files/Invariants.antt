use Rattle.std.proofs.Common.{◌≡◌, drop}
use Rattle.std.specs.Prelude.{map}
use Rattle.kc_script.specs.Reading.{files_read, reader_state}
use Rattle.kc_script.proofs.reading.all_files.Given as goal

abbrev pub invariant-loop-file : goal.invariant-loop-file
invariant-loop-file l = (l.thread ≡ l.file-index) × (files_read (reader_state l.reader) l.thread (map (λ file. file.items) (drop l.file-index l.files)) ≡ files_read (reader_state l.fn.reader) 0 (map (λ file. file.items) l.files))
