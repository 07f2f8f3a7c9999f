use Rattle.std.proofs.Common.{◌≡◌, ◌++◌, map, take, drop}
use Rattle.kc_c.specs.Reads.{read_told}
use Rattle.kc_c.proofs.reading.copy_reads.Given as goal

-- the first are written
abbrev pub invariant-loop-at : goal.invariant-loop-at
invariant-loop-at l = l.to ≡ map read_told (take l.at l.reads) ++ drop l.at l.fn.to
