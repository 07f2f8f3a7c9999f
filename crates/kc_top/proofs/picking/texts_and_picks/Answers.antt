use Rattle.std.proofs.Common.{List, ℕ, subst}
use Rattle.kc_script_lines.specs.declared.fault.ScriptError.{ScriptError}
use Rattle.kc_text_files.specs.Files.{IsRefused, texts_fault}
use Rattle.kc_top.proofs.Picked.{texts_wrong}
use Rattle.kc_top.proofs.picking.texts_and_picks.Goals as goal

pub returns-in-Err-Fault-clause-refuses : goal.returns-in-Err-Fault-clause-refuses
returns-in-Err-Fault-clause-refuses g c =
    let texts = c.in_ok-texts_file.texts_file.items in
    let picks = c.in_ok-texts_file.picks_file.items in
    let wrong = subst (λ (e : ScriptError). IsRefused (texts_fault texts) e) c.in-Err-Fault.field-0-is (subst (λ (bytes : List ℕ). IsRefused (texts_fault bytes) c.in-Err-Fault.field-0) c.deref.ensures.value c.in-Err-Fault.ensures.wrong) in
    rw (c.in-Err-Fault.line-is, c.in-Err-Fault.why-is) (record { texts = texts; picks = picks; both = c.in_ok-texts_file.ensures.both; wrong = texts_wrong texts picks c.in-Err-Fault.line c.in-Err-Fault.why wrong })
