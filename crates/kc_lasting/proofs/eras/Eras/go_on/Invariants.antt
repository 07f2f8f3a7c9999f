use Rattle.kc_lasting.specs.Eras.{line_after}
use Rattle.kc_lasting.proofs.eras.Eras.go_on.Given as goal

abbrev pub ghosts-write_next : goal.ghosts-write_next
ghosts-write_next a = record { next = line_after a._first.now a._keeper.now.caller.of }
