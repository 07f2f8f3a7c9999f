use Rattle.std.proofs.Common.{◌≡◌, length, sym, subst, ◌∙◌}
use Rattle.kc_history.proofs.Kept.{length-joined}
use Rattle.kc_history.specs.RecordsValue.{RecordsValue}
use Rattle.kc_history.proofs.records.Records.len.Goals as goal

pub returns : goal.returns
returns c = subst (λ (v : RecordsValue). c.len.result ≡ length v.items) c.self.view_is (c.len.ensures ∙ sym (length-joined c.self.inside.heads.items c.self.inside.prints.prints))
