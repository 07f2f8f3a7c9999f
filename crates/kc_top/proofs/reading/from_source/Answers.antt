use Rattle.std.proofs.Common.{List, ℕ, refl, subst, arith}
use Rattle.kc_script.specs.Refused.{Refused}
use Rattle.kc_script_lines.specs.declared.fault.ScriptError.{ScriptError}
use Rattle.kc_top.proofs.reading.from_source.Goals as goal

pub returns-in-Err-Fault-clause-refuses : goal.returns-in-Err-Fault-clause-refuses
returns-in-Err-Fault-clause-refuses g c = (
  refl,
  record {
    bytes = c.in-Ok.bytes.items;
    all = record { came = c.in-Ok.ensures.whole; within = (let len = c.in-Ok.bytes.ok.0 in let most = c.in-Ok.ensures.within in omega (arith, len, most)) };
    refused = subst (λ (e : ScriptError). Refused c.in-Ok.bytes.items e) c.in-Err-Fault.field-0-is (subst (λ (bytes : List ℕ). Refused bytes c.in-Err-Fault.field-0) c.deref.ensures.value c.in-Err-Fault.ensures.refused);
  },
)
