use Rattle.kc_shelf_laws.proofs.Lives.{named_is}
use Rattle.kc_shelf_laws.proofs.Names.{hand_is_named, place_is_named}
use Rattle.kc_shelf_laws.proofs.laws.who_has_a_name_finds_it.Goals as goal

pub returns-clause-hand : goal.returns-clause-hand
returns-clause-hand c = λ t places n m held k v ticket are lt some. named_is t m v (hand_is_named t places n m held k v ticket are lt some)

pub returns-clause-place : goal.returns-clause-place
returns-clause-place c = λ t places n m held l v ticket are there is. named_is t m v (place_is_named t places n m held l v ticket are there is)
