use Rattle.kc_keep.proofs.Seeing.{replies_by}
use Rattle.kc_keep.proofs.telling.commit_replied.Goals as goal

pub returns-clause-says : goal.returns-clause-says
returns-clause-says g c = replies_by _ _ _ _ _ c.commit_waiting-outcome.ensures.so _ c.reply_of.ensures
