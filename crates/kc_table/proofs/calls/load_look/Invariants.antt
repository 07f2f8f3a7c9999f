use Rattle.kc_table.proofs.calls.load_look.Given as goal

abbrev pub ghosts-load_plain : goal.ghosts-load_plain
ghosts-load_plain g a = record { now = g.B.Asks.now; began = g.B.Asks.began; takes = g.B.Asks.takes }
