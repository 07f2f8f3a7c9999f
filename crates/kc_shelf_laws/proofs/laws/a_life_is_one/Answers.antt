use Rattle.kc_shelf_laws.proofs.Lives.{ends_at}
use Rattle.kc_shelf_laws.proofs.Once.{once}
use Rattle.kc_shelf_laws.proofs.laws.a_life_is_one.Goals as goal

pub returns-clause-begins : goal.returns-clause-begins
returns-clause-begins c = λ t s e before between behind x y a b q r v ticket legal keep fit fit' answers answers' first second. once t v ticket b r fit' y answers' second before between behind x a q s e legal keep fit answers first

pub returns-clause-ends : goal.returns-clause-ends
returns-clause-ends c = λ t s e es v ticket legal keep some none. ends_at t v ticket es s e legal keep some none
