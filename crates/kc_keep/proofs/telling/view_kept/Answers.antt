use Rattle.kc_keep.proofs.Seeing.{saw_by}
use Rattle.kc_keep.proofs.telling.view_kept.Goals as goal

pub returns-clause-says : goal.returns-clause-says
returns-clause-says g c = saw_by _ _ _ _ _ c.view_into-viewed.ensures.viewed c.shows.ensures.view c.shows-2.ensures.view _ c.reply_viewed.ensures

pub returns-clause-so : goal.returns-clause-so
returns-clause-so g c = (_, _, c.view_into-viewed.ensures.viewed, c.reply_viewed.ensures)
