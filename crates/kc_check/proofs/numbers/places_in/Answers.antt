use Rattle.std.proofs.Common.{arith}
use Rattle.kc_check.proofs.Opened.{places_are}
use Rattle.kc_check.proofs.numbers.places_in.Goals as goal

pub returns : goal.returns
returns c = let a = places_are c.args.threads.now in let b = c.commands_in.ensures.count in omega (arith, a, b)
