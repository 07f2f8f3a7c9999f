use Rattle.std.proofs.Common.{ap, ◌∙◌, arith}
use Rattle.std.proofs.lemmas.Result.{err_from_is_err_and}
use Rattle.kc_script.proofs.Files.{goes_on, ends, is_done}
use Rattle.kc_script.specs.Reading.{reader_state}
use Rattle.kc_script.proofs.reading.all_files.Goals as goal

pub returns-in_err-read_numbered : goal.returns-in_err-read_numbered
returns-in_err-read_numbered c =
    let p = err_from_is_err_and c.from_residual-in_err-read_numbered.result c.from_residual-in_err-read_numbered.ensures.1 in
    let its = c.deref.ensures.value ∙ ap (λ file. file.items) c.file-item.is in
    rw (p.1, p.2) (ends (λ file. file.items) c.args.files.now c.loop-file.file-index c.loop-file.thread c.file-item.result (reader_state c.loop-file.reader) _ c.loop-file.invariant.1 (reader_state c.begun_thread.new.reader) _ c.in_ok-begun_thread.ensures its (omega arith) c.in_err-read_numbered.field-0.0 c.in_err-read_numbered.ensures)

pub loop-file-preserved : goal.loop-file-preserved
loop-file-preserved c =
    let its = c.deref.ensures.value ∙ ap (λ file. file.items) c.file-item.is in
    (omega (arith, c.loop-file.invariant.0), goes_on (λ file. file.items) c.args.files.now c.loop-file.file-index c.loop-file.thread c.file-item.result (reader_state c.loop-file.reader) _ c.loop-file.invariant.1 (reader_state c.begun_thread.new.reader) _ c.in_ok-begun_thread.ensures its (omega arith) (reader_state c.read_numbered.new.reader) c.in_ok-read_numbered.ensures)

pub returns : goal.returns
returns c = is_done (λ file. file.items) c.args.files.now c.loop-file.file-index c.loop-file.thread (reader_state c.loop-file.reader) _ c.loop-file.invariant.1 (omega arith)
