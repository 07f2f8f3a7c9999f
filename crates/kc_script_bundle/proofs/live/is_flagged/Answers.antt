use Rattle.std.proofs.Common.{ap, not, ◌==◌, ◌∙◌}
use Rattle.std.specs.Prelude.{bit_and}
use Rattle.kc_script_bundle.proofs.Flags.{flag_told}
use Rattle.kc_script_bundle.proofs.live.is_flagged.Goals as goal

pub returns : goal.returns
returns c = ap (λ f. not (bit_and c.args.value f == 0)) c.flag_of.ensures ∙ flag_told c.args.thread c.args.value
