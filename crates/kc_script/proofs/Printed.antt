-- What was printed is read again.
use Rattle.std.proofs.Common.{◌≡◌, ℕ, List, Result, Ok, Err, refl}
use Rattle.std.specs.Prelude.{IfOk, IfErr}
use Rattle.kc_script_lines.specs.declared.fault.ScriptError.{ScriptError}
use Rattle.kc_script_lines.specs.declared.fault.ScriptError.TheVariants as error
use Rattle.kc_script.proofs.Again.{canonical_spells}
use Rattle.kc_script.proofs.Agree.{spells_one}
use Rattle.kc_script.specs.Canonical.{canonical_text}
use Rattle.kc_script.specs.Refused.{Refused}
use Rattle.kc_script.specs.Spells.{Spells}
use Rattle.kc_script_bundle.specs.Script.{Script, script_of}
use Rattle.kc_script_bundle.specs.declared.bundle.Bundle.{Bundle}

pub again_spells : (bytes : List ℕ) (s : Script) (result : Result Bundle ScriptError) → Spells bytes s → IfOk result (λ bundle. Spells (canonical_text s) (script_of bundle)) → IfOk result (λ bundle. script_of bundle ≡ s)
again_spells bytes s (Ok bundle) p q = spells_one (canonical_text s) (script_of bundle) s q (canonical_spells bytes s p)
again_spells bytes s (Err error) p q = tt

pub again_refused : (bytes : List ℕ) (s : Script) (result : Result Bundle ScriptError) → Spells bytes s → IfErr result (Refused (canonical_text s)) → IfErr result (λ why. why ≡ error.NoMemory)
again_refused bytes s (Ok bundle) p q = tt
again_refused bytes s (Err (error.Fault line why)) p q = absurd (q.1 s (canonical_spells bytes s p))
again_refused bytes s (Err error.NoMemory) p q = refl
