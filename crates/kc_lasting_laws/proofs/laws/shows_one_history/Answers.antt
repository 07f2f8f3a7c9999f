use Rattle.std.proofs.Math.Logic.{∥∥₁_map}
use Rattle.kc_lasting.specs.Told.{standing_of}
use Rattle.kc_lasting_laws.proofs.Whole.{legal_whole}
use Rattle.kc_lasting_laws.proofs.laws.shows_one_history.Goals as goal

pub returns : goal.returns
returns c = λ z front. ∥∥₁_map c.shows.ensures.chain (λ eras. legal_whole z (standing_of c.args.handle.now).lines front eras)
