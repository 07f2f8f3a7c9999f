use Rattle.std.proofs.Common.{List, ℕ, refl, subst}
use Rattle.kc_script.specs.Refused.{Refused}
use Rattle.kc_script_lines.specs.declared.fault.ScriptError.{ScriptError}
use Rattle.kc_top.proofs.checking.accept.Goals as goal

pub returns-in-Err-Fault-clause-refuses : goal.returns-in-Err-Fault-clause-refuses
returns-in-Err-Fault-clause-refuses g c = rw (c.in-Err-Fault.line-is, c.in-Err-Fault.why-is) (
  refl,
  record {
    bundle = c.in_ok-script.script.items;
    text = c.in_ok-script.printed.items;
    both = c.in_ok-script.ensures.both;
    refused = subst (λ (e : ScriptError). Refused c.in_ok-script.script.items e) c.in-Err-Fault.field-0-is (subst (λ (bytes : List ℕ). Refused bytes c.in-Err-Fault.field-0) c.deref.ensures.value c.in-Err-Fault.ensures.refused);
  },
)
