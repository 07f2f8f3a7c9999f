use Rattle.kc_roll.proofs.Fronts.{opens}
use Rattle.kc_roll.proofs.roll.Roll.open.Goals as goal

pub of_words-requires : goal.of_words-requires
of_words-requires g c = opens
