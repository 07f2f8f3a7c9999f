use Rattle.kc_text.proofs.Forming.{unnamed_at_zero}
use Rattle.kc_text_laws.proofs.Graves.{no_lease_behind}
use Rattle.kc_text_laws.proofs.Holding.{none_held, opened_stand}
use Rattle.kc_text_laws.specs.Holding.{nobody}
use Rattle.kc_text_laws.proofs.laws.what_is_buried_is_held_by_none.Goals as goal

pub returns-clause-unnamed : goal.returns-clause-unnamed
returns-clause-unnamed c = λ t m j p formed text none place. unnamed_at_zero t m formed j p text none place

pub returns-clause-unheld : goal.returns-clause-unheld
returns-clause-unheld c = none_held

pub returns-clause-gone : goal.returns-clause-gone
returns-clause-gone c = λ t s e before between behind x y j p text place legal z keep buried leased. no_lease_behind t j text before between behind x y p s e nobody place legal keep (opened_stand t s z) buried leased
