use Rattle.std.proofs.Common.{sym, ◌∙◌}
use Rattle.kc_check.proofs.walking.says.Goals as goal

pub returns : goal.returns
returns c = (λ t. sym c.line_at-line.ensures ∙ c.is_reply.ensures.0 t, λ h. c.is_reply.ensures.1 (c.line_at-line.ensures ∙ h))
