use Rattle.kc_lasting.proofs.Chains.{eras_spare}
use Rattle.kc_lasting.proofs.laws.keepers_put_the_flag_alone.Goals as goal

pub returns : goal.returns
returns c = λ z lines keeper flag k history front eras last is ended. eras_spare z lines keeper flag k history front eras last is ended
