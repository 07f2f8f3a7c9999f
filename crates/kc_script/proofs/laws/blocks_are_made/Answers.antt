use Rattle.std.specs.Prelude.{true}
use Rattle.kc_script.proofs.Kept.{opening_makes}
use Rattle.kc_script.proofs.Trees.{nested}
use Rattle.kc_term.specs.Tree.{seq, trees}
use Rattle.kc_script.proofs.laws.blocks_are_made.Goals as goal

pub returns : goal.returns
returns c = λ texts s b outer e o. (nested b.done (seq (trees b.parts)), opening_makes true texts s b outer e o)
