use Rattle.kc_lasting.specs.Eras.{first_line}
use Rattle.kc_lasting.proofs.renewing.first_of.Given as goal

abbrev pub ghosts-write_first : goal.ghosts-write_first
ghosts-write_first a = record { next = first_line a._keeper.now.caller.of }
