use Rattle.std.proofs.Common.{length}
use Rattle.kc_script_bundle.proofs.Opened.{script_opens}
use Rattle.kc_script_bundle.proofs.laws.opens_well_formed.Goals as goal

pub returns : goal.returns
returns c = λ s lie. script_opens (length s.threads) s.objects lie
