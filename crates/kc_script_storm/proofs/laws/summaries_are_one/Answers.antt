use Rattle.kc_script_storm.proofs.Drawn.{summary_is}
use Rattle.kc_script_storm.proofs.laws.summaries_are_one.Goals as goal

pub returns : goal.returns
returns c = summary_is
